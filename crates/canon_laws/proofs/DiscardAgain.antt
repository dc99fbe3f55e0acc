-- The canonical discard of a seat takes the places that its discard of that draw took in the script.
use Rattle.std.proofs.Common.{◌≡◌, ℕ, suc, ◌+◌, ◌≤◌, ◌<◌, Bool, true, false, ◌&&◌, ◌||◌, ◌==◌, inl, inr, ◌⊎◌, Some, is_some, is_none, List, [], ◌∷◌, ◌++◌, map, filter, length, slice_get, refl, sym, ◌∙◌, ap, subst, arith, if◌then◌else◌}
use Rattle.std.specs.Option.{option_map_or}
use Rattle.std.proofs.lemmas.Bool.{or_parts, or_from, or_left, or_right, and_parts, and_from, eqb-true, eq-eqb, both_ways, false_from_ne_true}
use Rattle.play_event.specs.declared.code.Code.{Code}
use Rattle.play_event.specs.Past.{Move}
use Rattle.card_set.specs.Known.{hides_card}
use Rattle.play_event.specs.Places.{Place, is_same_owner, is_held_by}
use Rattle.play_event.specs.NameMatching.{after_discard, discarded_now}
use Rattle.play_event.specs.Laws.{IsAmong}
use Rattle.card_set.proofs.Tests.{false_true}
use Rattle.play_laws.specs.LegalPlaces.{has_owner_folded, UnknownsFirst}
use Rattle.canon_laws.proofs.Mirrors.{Mirrors, AreMirrored}
use Rattle.canon_laws.proofs.MatchedNames.{slots_taken, blanks_taken, marked_if, BlanksFirst, TakenTogether}
use Rattle.canon_laws.proofs.CleanDiscard.{IsCleanDiscard, clean_discard}
use Rattle.play_laws.proofs.PlaceLists.{AreNumbered}
use Rattle.play_laws.proofs.QuietEvents.{held_parts}
use Rattle.play_laws.proofs.DiscardCounts.{is_out_of}
use Rattle.play_event.proofs.OwnerLaws.{is_same_owner-true}
use Rattle.std.proofs.lemmas.List.{append_assoc, length-append}
use Rattle.card_set.proofs.Options.{none_some}

-- A place of the canonical script is taken if the seat discarded the final place with the same
-- number in this draw.
abbrev pub taken_by : List Place → ℕ → ℕ → Place → Bool
taken_by finals street seat place = is_held_by seat place && option_map_or (is_out_of street seat) (slice_get finals place.number) false

-- each place is at its number
abbrev pub AllTaken : (taken : Place → Bool) (street seat : ℕ) → List Place → List Place → Type 0
AllTaken taken street seat [] [] = Unit {0}
AllTaken taken street seat [] (final ∷ finals) = ⊥
AllTaken taken street seat (mine ∷ mines) [] = ⊥
AllTaken taken street seat (mine ∷ mines) (final ∷ finals) = (taken mine ≡ is_out_of street seat final) × AllTaken taken street seat mines finals

get_behind : (front : List Place) (final : Place) (finals : List Place) → slice_get (front ++ (final ∷ finals)) (length front) ≡ Some final
get_behind [] final finals = refl
get_behind (first ∷ rest) final finals = get_behind rest final finals

-- what is to be discarded now is held
pub record IsDrawing (moves : List Move) (out : Place → Bool) (street seat : ℕ) (finals : List Place) : Type 0 where
  pub live : has_owner_folded moves (Some seat) ≡ false
  pub still : (final : Place) → IsAmong finals final → is_out_of street seat final ≡ true → out final ≡ false
  pub early : (final : Place) → IsAmong finals final → final.street < street
  pub before : (final : Place) → IsAmong finals final → final.owner ≡ Some seat → out final ≡ false → (final.discarded ≡ 0) ⊎ (street ≤ final.discarded)
  pub some : 1 ≤ street

drawing_rest : (moves : List Move) (out : Place → Bool) (street seat : ℕ) (final : Place) (finals : List Place) → IsDrawing moves out street seat (final ∷ finals) → IsDrawing moves out street seat finals
drawing_rest moves out street seat final finals is = record { live = is.live; still = λ other among. is.still other (inr among); early = λ other among. is.early other (inr among); before = λ other among. is.before other (inr among); some = is.some }

-- a place that the seat discards now is held
held_now : (moves : List Move) (out : Place → Bool) (street seat : ℕ) (mine final : Place) → has_owner_folded moves (Some seat) ≡ false → Mirrors moves out mine final → (is_out_of street seat final ≡ true → out final ≡ false) → is_out_of street seat final ≡ true → is_held_by seat mine ≡ true
held_now moves out street seat mine final live mirror still is =
    let parts = and_parts (is_same_owner final.owner (Some seat)) (final.discarded == street) is in
    and_from (is_same_owner mine.owner (Some seat)) (is_none mine.gone_after) (ap (λ o. is_same_owner o (Some seat)) mirror.owner ∙ parts.0)
    (none_some mine.gone_after (mirror.gone_after ∙ or_from (out final) (has_owner_folded moves final.owner) (still is) (ap (has_owner_folded moves) (is_same_owner-true final.owner (Some seat) parts.0) ∙ live)))

taken_one : (moves : List Move) (out : Place → Bool) (all : List Place) (street seat : ℕ) (mine final : Place) → has_owner_folded moves (Some seat) ≡ false → Mirrors moves out mine final → (is_out_of street seat final ≡ true → out final ≡ false) → slice_get all mine.number ≡ Some final → taken_by all street seat mine ≡ is_out_of street seat final
taken_one moves out all street seat mine final live mirror still at =
    ap (λ o. is_held_by seat mine && option_map_or (is_out_of street seat) o false) at ∙ by_out (is_out_of street seat final) (is_held_by seat mine) (held_now moves out street seat mine final live mirror still)
  where
    by_out : (b h : Bool) → (b ≡ true → h ≡ true) → (h && b) ≡ b
    by_out true true held = refl
    by_out true false held = false_true (held refl)
    by_out false true held = refl
    by_out false false held = refl

all_taken : (moves : List Move) (out : Place → Bool) (front : List Place) (street seat : ℕ) (mines finals : List Place) → AreMirrored moves out mines finals → AreNumbered (length front) mines → IsDrawing moves out street seat finals → AllTaken (taken_by (front ++ finals) street seat) street seat mines finals
all_taken moves out front street seat [] [] mirrored numbered is = tt
all_taken moves out front street seat [] (final ∷ finals) mirrored numbered is = absurd mirrored
all_taken moves out front street seat (mine ∷ mines) [] mirrored numbered is = absurd mirrored
all_taken moves out front street seat (mine ∷ mines) (final ∷ finals) mirrored numbered is =
    let P : List Place → Type 0 = λ all. AllTaken (taken_by all street seat) street seat mines finals in
    let Q : ℕ → Type 0 = λ n. AreNumbered n mines in
    let longer : length front + 1 ≡ length (front ++ (final ∷ [])) = sym (length-append front (final ∷ [])) in (
      taken_one moves out (front ++ (final ∷ finals)) street seat mine final is.live mirrored.0 (is.still final (inl refl)) (ap (slice_get (front ++ (final ∷ finals))) numbered.0 ∙ get_behind front final finals),
      subst P (append_assoc front (final ∷ []) finals) (all_taken moves out (front ++ (final ∷ [])) street seat mines finals mirrored.1 (subst Q longer numbered.1) (drawing_rest moves out street seat final finals is)),
    )

-- the names are those of the final places
names_step : (mine final : Place) (mines finals : List Place) (a b : Bool) → a ≡ b → mine.slot ≡ final.slot → map (λ (p : Place). p.slot) mines ≡ map (λ (p : Place). p.slot) finals → map (λ (p : Place). p.slot) (if a then (mine ∷ mines) else mines) ≡ map (λ (p : Place). p.slot) (if b then (final ∷ finals) else finals)
names_step mine final mines finals true true same slot later = ap (λ s. s ∷ map (λ (p : Place). p.slot) mines) slot ∙ ap (λ l. final.slot ∷ l) later
names_step mine final mines finals true false same slot later = false_true (sym same)
names_step mine final mines finals false true same slot later = false_true same
names_step mine final mines finals false false same slot later = later

same_names : (moves : List Move) (out taken : Place → Bool) (street seat : ℕ) (mines finals : List Place) → AreMirrored moves out mines finals → AllTaken taken street seat mines finals → slots_taken taken mines ≡ map (λ (p : Place). p.slot) (filter (is_out_of street seat) finals)
same_names moves out taken street seat [] [] mirrored all = refl
same_names moves out taken street seat [] (final ∷ finals) mirrored all = absurd mirrored
same_names moves out taken street seat (mine ∷ mines) [] mirrored all = absurd mirrored
same_names moves out taken street seat (mine ∷ mines) (final ∷ finals) mirrored all =
    names_step mine final (filter taken mines) (filter (is_out_of street seat) finals) (taken mine) (is_out_of street seat final) all.0 mirrored.0.slot (same_names moves out taken street seat mines finals mirrored.1 all.1)

-- blanks come first
no_blanks : (moves : List Move) (out taken : Place → Bool) (street seat : ℕ) (first : Place) (mines finals : List Place) → AreMirrored moves out mines finals → AllTaken taken street seat mines finals → ((second : Place) → IsAmong finals second → is_out_of street seat second ≡ true → hides_card second.slot ≡ true → ⊥) → blanks_taken taken mines ≡ 0
no_blanks moves out taken street seat first [] [] mirrored all never = refl
no_blanks moves out taken street seat first [] (final ∷ finals) mirrored all never = absurd mirrored
no_blanks moves out taken street seat first (mine ∷ mines) [] mirrored all never = absurd mirrored
no_blanks moves out taken street seat first (mine ∷ mines) (final ∷ finals) mirrored all never =
    let none : (taken mine && hides_card mine.slot) ≡ false = false_from_ne_true (taken mine && hides_card mine.slot) (λ both.
    let parts = and_parts (taken mine) (hides_card mine.slot) both in never final (inl refl) (sym all.0 ∙ parts.0) (sym (ap hides_card mirrored.0.slot) ∙ parts.1)) in
    ap (λ b. if b then suc (blanks_taken taken mines) else blanks_taken taken mines) none
    ∙ no_blanks moves out taken street seat first mines finals mirrored.1 all.1 (λ second among. never second (inr among))

blanks_first : (moves : List Move) (out taken : Place → Bool) (street seat : ℕ) (mines finals : List Place) → AreMirrored moves out mines finals → AllTaken taken street seat mines finals → IsDrawing moves out street seat finals → UnknownsFirst finals → BlanksFirst (is_held_by seat) taken mines
blanks_first moves out taken street seat [] [] mirrored all is before = tt
blanks_first moves out taken street seat [] (final ∷ finals) mirrored all is before = absurd mirrored
blanks_first moves out taken street seat (mine ∷ mines) [] mirrored all is before = absurd mirrored
blanks_first moves out taken street seat (mine ∷ mines) (final ∷ finals) mirrored all is before = (
  λ held unknown not_taken. no_blanks moves out taken street seat mine mines finals mirrored.1 all.1 (λ second among is_out unknown_second.
      let parts = and_parts (is_same_owner second.owner (Some seat)) (second.discarded == street) is_out in
      let on : second.discarded ≡ street = eqb-true second.discarded street parts.1 in
      let mine_is : final.owner ≡ Some seat = sym mirrored.0.owner ∙ (held_parts seat mine held).1 in
      let not_out : out final ≡ false = (or_parts (out final) (has_owner_folded moves final.owner) (sym mirrored.0.gone_after ∙ ap is_some (held_parts seat mine held).0)).0 in
      let same : final.discarded ≡ second.discarded = before.0 second among (mine_is ∙ sym (is_same_owner-true second.owner (Some seat) parts.0)) (sym (ap hides_card mirrored.0.slot) ∙ unknown) unknown_second
      (omega (arith, on, is.some)) (omega (arith, on, is.early final (inl refl))) (elim (is.before final (inl refl) mine_is not_out) [ inl none ↦ inl none | inr late ↦ inr (omega (arith, late, on)) ]) in
      both_ways (taken mine) not_taken (all.0 ∙ and_from (is_same_owner final.owner (Some seat)) (final.discarded == street) (ap (λ o. is_same_owner o (Some seat)) mine_is ∙ eq-eqb seat seat refl) (eq-eqb final.discarded street (same ∙ on)))),
  blanks_first moves out taken street seat mines finals mirrored.1 all.1 (drawing_rest moves out street seat final finals is) before.1,
)

-- what is discarded now is out
mirror_out : (moves : List Move) (out : Place → Bool) (street seat count : ℕ) (mine final : Place) (b : Bool) → Mirrors moves out mine final → (b ≡ true → (is_out_of street seat final ≡ true) × (out final ≡ false)) → is_out_of street seat final ≡ b → Mirrors moves (λ p. out p || is_out_of street seat p) (if b then discarded_now street count mine else mine) final
mirror_out moves out street seat count mine final true mirror now is =
    let it = now refl in
    record {
      owner = mirror.owner;
      street = mirror.street;
      index = mirror.index;
      slot = mirror.slot;
      discarded = sym (ap (λ b. if b then final.discarded else 0) (or_right (out final) (is_out_of street seat final) is) ∙ eqb-true final.discarded street (and_parts (is_same_owner final.owner (Some seat)) (final.discarded == street) is).1);
      gone_after = sym (or_left (out final || is_out_of street seat final) (has_owner_folded moves final.owner) (or_right (out final) (is_out_of street seat final) is));
    }
mirror_out moves out street seat count mine final false mirror now is =
    record {
      owner = mirror.owner;
      street = mirror.street;
      index = mirror.index;
      slot = mirror.slot;
      discarded = mirror.discarded ∙ ap (λ b. if b then final.discarded else 0) (sym (or_false (out final) (is_out_of street seat final) is));
      gone_after = mirror.gone_after ∙ ap (λ b. b || has_owner_folded moves final.owner) (sym (or_false (out final) (is_out_of street seat final) is));
    }
  where
    or_false : (a b : Bool) → b ≡ false → (a || b) ≡ a
    or_false true b none = refl
    or_false false b none = none

mirrored_out : (moves : List Move) (out taken : Place → Bool) (street seat count : ℕ) (mines finals : List Place) → AreMirrored moves out mines finals → AllTaken taken street seat mines finals → IsDrawing moves out street seat finals → AreMirrored moves (λ p. out p || is_out_of street seat p) (map (marked_if taken (discarded_now street count)) mines) finals
mirrored_out moves out taken street seat count [] [] mirrored all is = tt
mirrored_out moves out taken street seat count [] (final ∷ finals) mirrored all is = absurd mirrored
mirrored_out moves out taken street seat count (mine ∷ mines) [] mirrored all is = absurd mirrored
mirrored_out moves out taken street seat count (mine ∷ mines) (final ∷ finals) mirrored all is = (
  mirror_out moves out street seat count mine final (taken mine) mirrored.0 (λ now. (sym all.0 ∙ now, is.still final (inl refl) (sym all.0 ∙ now))) (sym all.0),
  mirrored_out moves out taken street seat count mines finals mirrored.1 all.1 (drawing_rest moves out street seat final finals is),
)

-- the canonical discard of a seat: as far as cards are concerned it is due, it names what the
-- script's discard took, and it takes just that
pub record IsDiscardedAgain (code : Code) (moves : List Move) (out : Place → Bool) (street seat : ℕ) (mines finals : List Place) : Type 0 where
  pub names : slots_taken (taken_by finals street seat) mines ≡ map (λ (p : Place). p.slot) (filter (is_out_of street seat) finals)
  pub clean : IsCleanDiscard code street seat (taken_by finals street seat) mines
  pub mirrored : AreMirrored moves (λ p. out p || is_out_of street seat p) (after_discard street seat (map (λ (p : Place). p.slot) (filter (is_out_of street seat) finals)) mines) finals

-- the canonical discard takes what the script's discard of that draw took
pub discarded_again : (code : Code) (moves : List Move) (out : Place → Bool) (street seat : ℕ) (mines finals : List Place) → AreMirrored moves out mines finals → AreNumbered 0 mines → IsDrawing moves out street seat finals → UnknownsFirst finals → TakenTogether (is_held_by seat) (taken_by finals street seat) mines → IsDiscardedAgain code moves out street seat mines finals
discarded_again code moves out street seat mines finals mirrored numbered is before together =
    let all = all_taken moves out [] street seat mines finals mirrored numbered is in
    let taken : Place → Bool = taken_by finals street seat in
    let names = same_names moves out taken street seat mines finals mirrored all in
    let clean = clean_discard code street seat taken mines (λ place now. (and_parts (is_held_by seat place) (option_map_or (is_out_of street seat) (slice_get finals place.number) false) now).0) together (blanks_first moves out taken street seat mines finals mirrored all is before) in
    let P : List Place → Type 0 = λ l. AreMirrored moves (λ p. out p || is_out_of street seat p) l finals in
    record {
      names = names;
      clean = clean;
      mirrored = subst P (sym clean.after ∙ ap (λ l. after_discard street seat l mines) names) (mirrored_out moves out taken street seat (length mines) mines finals mirrored all is);
    }
