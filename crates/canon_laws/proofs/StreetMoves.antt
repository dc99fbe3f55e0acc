-- The canonical moves of a street keep the mirror, and the moves before a street are those before
-- the previous street and the previous street's own.
use Rattle.std.proofs.Common.{◌≡◌, ℕ, ◌+◌, ◌≤◌, ◌<◌, Bool, true, false, ◌&&◌, ◌||◌, ◌==◌, nat_lt, inl, inr, Option, Some, None, is_some, is_none, List, [], ◌∷◌, ◌++◌, map, filter, length, refl, sym, ◌∙◌, ap, arith, if◌then◌else◌}
use Rattle.std.proofs.lemmas.Bool.{or_right, cases_eq, cases_lt, lt-ltb, le-ltb, eq-eqb, ne_eqb, eqb-true, not-false}
use Rattle.play_event.specs.declared.code.Code.{Code}
use Rattle.play_event.specs.declared.setup.Setup.{Setup}
use Rattle.play_event.specs.declared.setup.Rules.{Rules}
use Rattle.play_event.specs.Said.{Said}
use Rattle.play_event.specs.Past.{Past, Resolved, Move, moves_of, newest_street, is_folding, moves_before}
use Rattle.play_event.specs.Due.{turn}
use Rattle.play_event.specs.Places.{Place, is_same_owner, is_held_by, folded_place, gone_now, after_fold}
use Rattle.play_event.specs.Table.{places_of}
use Rattle.play_event.specs.Scripts.{with_event, past_of}
use Rattle.play_event.specs.Laws.{AreLegal}
use Rattle.card_set.proofs.Tests.{false_true}
use Rattle.play_laws.specs.LegalPlaces.{has_owner_folded}
use Rattle.canon_laws.proofs.Mirrors.{Mirrors, AreMirrored}
use Rattle.play_laws.specs.PastLaws.{AreReached, PastLaw}
use Rattle.play_laws.proofs.DueAtEvents.{Reaches, turn_reaches}
use Rattle.play_laws.proofs.LegalEvents.{Stepped, deals, boards, moves, discards, shows, mucks, stepped}
use Rattle.play_laws.proofs.LegalPlaces.{legal_past}
use Rattle.play_laws.proofs.QuietEvents.{folded_own, folded_other, unfolded_first}
use Rattle.canon_laws.proofs.MovesRun.{with_moves}
use Rattle.play_laws.proofs.PastLawKept.{reached_more}
use Rattle.card_set.proofs.Options.{some_or_none}

-- streets do not increase from a move to an older one
abbrev pub AreFalling : List Move → Type 0
AreFalling [] = Unit {0}
AreFalling (first ∷ older) = AreReached first.street older × AreFalling older

falling_step : (setup : Setup) (before : Past) (at : ℕ) (event : Resolved) → PastLaw setup before → Reaches setup before at → Stepped setup before at event → AreFalling (moves_of before) → AreFalling (moves_of (event ∷ before))
falling_step setup before at _ past come (deals who cards due is some few free) falling = falling
falling_step setup before at _ past come (boards cards due some few free) falling = falling
falling_step setup before at _ past come (discards who cards no_deal draw next few free held) falling = falling
falling_step setup before at _ past come (shows who cards may free) falling = falling
falling_step setup before at _ past come (mucks who may) falling = falling
falling_step setup before at _ past come (moves played no_deal no_draw on) falling = (reached_more (newest_street before) played.street (moves_of before) (omega (arith, on, come.on)) past.moved, falling)

-- after legal events no move is on a later street than one after it
pub legal_falling : (setup : Setup) (rules : Rules) (events : List Said) → AreLegal setup rules events → AreFalling (moves_of (past_of setup events))
unfolding with_event
legal_falling setup rules [] legal = tt
legal_falling setup rules (event ∷ events) legal =
    let before = past_of setup events in
    let it = legal_past setup rules events legal.1 in
    falling_step setup before (turn setup before).0 _ it.past (turn_reaches setup before it.past.within) (stepped setup rules before event legal.0) (legal_falling setup rules events legal.1)

-- the moves of a street
abbrev pub own_moves : ℕ → List Move → List Move
own_moves street list = filter (λ played. played.street == street) list

pub none_own : (newest street : ℕ) (list : List Move) → AreReached newest list → newest < street → own_moves street list ≡ []
none_own newest street [] all less = refl
none_own newest street (first ∷ rest) all less =
    ap (λ b. if b then (first ∷ own_moves street rest) else own_moves street rest) (ne_eqb first.street street (λ same. omega (arith, same, all.0, less))) ∙ none_own newest street rest all.1 less

-- the moves before the next street are a street's own and those before it
pub moves_split : (street : ℕ) (list : List Move) → AreFalling list → moves_before (street + 1) list ≡ own_moves street list ++ moves_before street list
moves_split street [] falling = refl
moves_split street (first ∷ older) falling = elim (cases_lt first.street street) [
  | inl early ↦
      ap (λ b. if b then (first ∷ moves_before (street + 1) older) else moves_before (street + 1) older) (lt-ltb first.street (street + 1) (omega (arith, early)))
      ∙ (ap (λ l. first ∷ l) (moves_split street older falling.1 ∙ ap (λ l. l ++ moves_before street older) (none_own first.street street older falling.0 early))
      ∙ sym (ap (λ b. (if b then (first ∷ own_moves street older) else own_moves street older) ++ (if nat_lt first.street street then (first ∷ moves_before street older) else moves_before street older)) (ne_eqb first.street street (λ same. omega (arith, same, early)))
      ∙ (ap (λ l. l ++ (if nat_lt first.street street then (first ∷ moves_before street older) else moves_before street older)) (none_own first.street street older falling.0 early)
      ∙ ap (λ b. if b then (first ∷ moves_before street older) else moves_before street older) (lt-ltb first.street street early))))
  | inr late ↦ elim (cases_eq first.street street) [
    | inl same ↦
        ap (λ b. if b then (first ∷ moves_before (street + 1) older) else moves_before (street + 1) older) (lt-ltb first.street (street + 1) (omega (arith, same)))
        ∙ (ap (λ l. first ∷ l) (moves_split street older falling.1)
        ∙ sym (ap (λ b. (if b then (first ∷ own_moves street older) else own_moves street older) ++ (if nat_lt first.street street then (first ∷ moves_before street older) else moves_before street older)) (eq-eqb first.street street same)
        ∙ ap (λ b. first ∷ (own_moves street older ++ (if b then (first ∷ moves_before street older) else moves_before street older))) (le-ltb first.street street (omega (arith, same)))))
    | inr differ ↦
        ap (λ b. if b then (first ∷ moves_before (street + 1) older) else moves_before (street + 1) older) (le-ltb first.street (street + 1) (above late differ))
        ∙ (moves_split street older falling.1
        ∙ sym (ap (λ b. (if b then (first ∷ own_moves street older) else own_moves street older) ++ (if nat_lt first.street street then (first ∷ moves_before street older) else moves_before street older)) (ne_eqb first.street street differ)
        ∙ ap (λ b. own_moves street older ++ (if b then (first ∷ moves_before street older) else moves_before street older)) (le-ltb first.street street late)))
  ]
]
  where
    above : street ≤ first.street → (first.street ≡ street → ⊥) → street + 1 ≤ first.street
    above late differ = elim (cases_lt street first.street) [ inl less ↦ omega (arith, less) | inr more ↦ absurd (differ (omega (arith, more, late))) ]

-- a move keeps the mirror
fold_gone : (played : Move) (list : List Move) (count : ℕ) (place : Place) (x o g : Bool) → is_folding played.act ≡ true → is_same_owner place.owner (Some played.seat) ≡ o → is_none place.gone_after ≡ g → is_some place.gone_after ≡ (x || has_owner_folded list place.owner) → is_some (if o && g then gone_now count place else place).gone_after ≡ (x || has_owner_folded (played ∷ list) place.owner)
fold_gone played list count place x true true fold owner gone was = sym (or_right x (has_owner_folded (played ∷ list) place.owner) (own place.owner owner))
  where
    own : (who : Option ℕ) → is_same_owner who (Some played.seat) ≡ true → has_owner_folded (played ∷ list) who ≡ true
    own (Some seat) same = folded_own played list (Some seat) fold (ap Some (eqb-true seat played.seat same))
    own None same = false_true same
fold_gone played list count place x true false fold owner gone was =
    not-false (is_some place.gone_after) (sym (some_or_none place.gone_after) ∙ gone) ∙ sym (or_right x (has_owner_folded (played ∷ list) place.owner) (own place.owner owner))
  where
    own : (who : Option ℕ) → is_same_owner who (Some played.seat) ≡ true → has_owner_folded (played ∷ list) who ≡ true
    own (Some seat) same = folded_own played list (Some seat) fold (ap Some (eqb-true seat played.seat same))
    own None same = false_true same
fold_gone played list count place x false g fold owner gone was = was ∙ ap (λ f. x || f) (sym (folded_other played list place.owner false owner refl))

fold_mirror : (played : Move) (list : List Move) (out : Place → Bool) (count : ℕ) (mine final : Place) → is_folding played.act ≡ true → Mirrors list out mine final → Mirrors (played ∷ list) out (folded_place played.seat count mine) final
fold_mirror played list out count mine final fold mirror =
    let gone = fold_gone played list count mine (out final) (is_same_owner mine.owner (Some played.seat)) (is_none mine.gone_after) fold refl refl (mirror.gone_after ∙ ap (λ o. out final || has_owner_folded list o) (sym mirror.owner)) in
    by_held (is_held_by played.seat mine) (gone ∙ ap (λ o. out final || has_owner_folded (played ∷ list) o) mirror.owner)
  where
    by_held : (b : Bool) → is_some (if b then gone_now count mine else mine).gone_after ≡ (out final || has_owner_folded (played ∷ list) final.owner) → Mirrors (played ∷ list) out (if b then gone_now count mine else mine) final
    by_held true gone = record { owner = mirror.owner; street = mirror.street; index = mirror.index; slot = mirror.slot; discarded = mirror.discarded; gone_after = gone }
    by_held false gone = record { owner = mirror.owner; street = mirror.street; index = mirror.index; slot = mirror.slot; discarded = mirror.discarded; gone_after = gone }

folds_mirrored : (played : Move) (list : List Move) (out : Place → Bool) (count : ℕ) (mines finals : List Place) → is_folding played.act ≡ true → AreMirrored list out mines finals → AreMirrored (played ∷ list) out (map (folded_place played.seat count) mines) finals
folds_mirrored played list out count [] [] fold mirrored = tt
folds_mirrored played list out count [] (final ∷ finals) fold mirrored = absurd mirrored
folds_mirrored played list out count (mine ∷ mines) [] fold mirrored = absurd mirrored
folds_mirrored played list out count (mine ∷ mines) (final ∷ finals) fold mirrored = (fold_mirror played list out count mine final fold mirrored.0, folds_mirrored played list out count mines finals fold mirrored.1)

others_mirrored : (played : Move) (list : List Move) (out : Place → Bool) (mines finals : List Place) → is_folding played.act ≡ false → AreMirrored list out mines finals → AreMirrored (played ∷ list) out mines finals
others_mirrored played list out [] [] other mirrored = tt
others_mirrored played list out [] (final ∷ finals) other mirrored = absurd mirrored
others_mirrored played list out (mine ∷ mines) [] other mirrored = absurd mirrored
others_mirrored played list out (mine ∷ mines) (final ∷ finals) other mirrored =
    let it = mirrored.0 in (
      record { owner = it.owner; street = it.street; index = it.index; slot = it.slot; discarded = it.discarded; gone_after = it.gone_after ∙ ap (λ f. out final || f) (sym (unfolded_first played list final.owner other)) },
      others_mirrored played list out mines finals other mirrored.1,
    )

-- moves keep the mirror, except who has folded
pub moves_mirrored : (code : Code) (list older : List Move) (out : Place → Bool) (before : Past) (finals : List Place) → AreMirrored older out (places_of code before) finals → AreMirrored (list ++ older) out (places_of code (with_moves list before)) finals
moves_mirrored code [] older out before finals mirrored = mirrored
moves_mirrored code (played ∷ rest) older out before finals mirrored = by_fold (is_folding played.act) refl (moves_mirrored code rest older out before finals mirrored)
  where
    by_fold : (b : Bool) → is_folding played.act ≡ b → AreMirrored (rest ++ older) out (places_of code (with_moves rest before)) finals → AreMirrored (played ∷ (rest ++ older)) out (if b then after_fold played.seat (places_of code (with_moves rest before)) else places_of code (with_moves rest before)) finals
    by_fold true fold it = folds_mirrored played (rest ++ older) out (length (places_of code (with_moves rest before))) (places_of code (with_moves rest before)) finals fold it
    by_fold false other it = others_mirrored played (rest ++ older) out (places_of code (with_moves rest before)) finals other it
