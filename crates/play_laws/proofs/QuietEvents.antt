-- Folds, discards and shows are events that deal nothing.
use Rattle.std.proofs.Common.{◌≡◌, ℕ, zero, suc, ◌≤◌, ◌<◌, Bool, true, false, ◌&&◌, ◌||◌, ◌==◌, not, nat_lt, inl, inr, ◌⊎◌, Option, Some, None, is_some, is_none, List, [], ◌∷◌, map, length, refl, sym, ◌∙◌, ap, subst, arith, if◌then◌else◌}
use Rattle.std.specs.List.{list_any}
use Rattle.std.proofs.lemmas.Bool.{and_parts, or_cases, or_left, or_right, and_from, lt-ltb, ltb-true, eqb-true, eq-eqb, not-true, not_from_true, not-false, and_right, ne_eqb}
use Rattle.card_set.specs.declared.card.Card.{Card}
use Rattle.card_set.specs.declared.card.Slot.{Slot}
use Rattle.card_set.specs.declared.card.Slot.TheVariants as slots
use Rattle.play_event.specs.declared.code.Code.{Code}
use Rattle.play_event.specs.Past.{Move, is_folding, moves_before}
use Rattle.play_event.specs.Seats.{is_live, is_fold_of}
use Rattle.play_event.specs.Places.{Place, is_same_owner, is_held_by, folded_place, gone_now, after_fold}
use Rattle.play_event.specs.NameMatching.{matched_card, after_matching, discarded_now, is_named}
use Rattle.play_event.specs.Laws.{IsAmong}
use Rattle.card_set.proofs.Tests.{false_true}
use Rattle.play_event.proofs.Kept.{held_is_there}
use Rattle.play_laws.specs.LegalPlaces.{has_owner_folded, PlacesLaw}
use Rattle.play_laws.proofs.PlaceChanges.{HowGone, stays, out, folds, IsChange, AreChanged}
use Rattle.play_laws.proofs.KeptPlaces.{change_law}
use Rattle.play_event.proofs.OwnerLaws.{is_same_owner-true}
use Rattle.card_set.proofs.Options.{some_or_none}

-- who has folded has folded after one more move
pub folded_first : (move : Move) (moves : List Move) (owner : Option ℕ) → has_owner_folded moves owner ≡ true → has_owner_folded (move ∷ moves) owner ≡ true
folded_first move moves None is = is
folded_first move moves (Some seat) is =
    ap not (not_from_true (is_fold_of seat move || list_any (is_fold_of seat) moves) (or_right (is_fold_of seat move) (list_any (is_fold_of seat) moves) (not-false (list_any (is_fold_of seat) moves) (not-true (is_live moves seat) is))))

-- who has folded has folded after a further move
pub folded_more : (move : Move) (moves : List Move) (by : ℕ) (owner : Option ℕ) → has_owner_folded (moves_before by moves) owner ≡ true → has_owner_folded (moves_before by (move ∷ moves)) owner ≡ true
folded_more move moves by owner is = by_street (nat_lt move.street by)
  where
    by_street : (b : Bool) → has_owner_folded (if b then (move ∷ moves_before by moves) else moves_before by moves) owner ≡ true
    by_street true = folded_first move (moves_before by moves) owner is
    by_street false = is

-- who has folded after one more move folded before, or by it
folded_either : (move : Move) (moves : List Move) (owner : Option ℕ) → has_owner_folded (move ∷ moves) owner ≡ true → (has_owner_folded moves owner ≡ true) ⊎ ((is_folding move.act ≡ true) × (owner ≡ Some move.seat))
folded_either move moves None is = inl is
folded_either move moves (Some seat) is = elim (or_cases (is_fold_of seat move) (list_any (is_fold_of seat) moves) (not-false (is_fold_of seat move || list_any (is_fold_of seat) moves) (not-true (is_live (move ∷ moves) seat) is))) [
  | inl now ↦ let parts = and_parts (is_folding move.act) (move.seat == seat) now in inr (parts.0, ap Some (sym (eqb-true move.seat seat parts.1)))
  | inr before ↦ inl (ap not (not_from_true (list_any (is_fold_of seat) moves) before))
]

-- who has folded after a further move folded before, or by it
pub folded_back : (move : Move) (moves : List Move) (by : ℕ) (owner : Option ℕ) → has_owner_folded (moves_before by (move ∷ moves)) owner ≡ true → (has_owner_folded (moves_before by moves) owner ≡ true) ⊎ ((is_folding move.act ≡ true) × ((owner ≡ Some move.seat) × (move.street < by)))
folded_back move moves by owner = by_street (nat_lt move.street by) refl
  where
    by_street : (b : Bool) → nat_lt move.street by ≡ b → has_owner_folded (if b then (move ∷ moves_before by moves) else moves_before by moves) owner ≡ true → (has_owner_folded (moves_before by moves) owner ≡ true) ⊎ ((is_folding move.act ≡ true) × ((owner ≡ Some move.seat) × (move.street < by)))
    by_street true early is = elim (folded_either move (moves_before by moves) owner is) [
      | inl before ↦ inl before
      | inr now ↦ inr (now.0, (now.1, ltb-true move.street by early))
    ]
    by_street false late is = inl is

-- a move that folds nobody changes nothing
pub unfolded_first : (move : Move) (moves : List Move) (owner : Option ℕ) → is_folding move.act ≡ false → has_owner_folded (move ∷ moves) owner ≡ has_owner_folded moves owner
unfolded_first move moves None is = refl
unfolded_first move moves (Some seat) is = ap (λ b. not (not ((b && (move.seat == seat)) || list_any (is_fold_of seat) moves))) is

-- marks
pub data HowMarked (covers : Place → Bool) (count draw : ℕ) (old new : Place) : Type 0 where
  kept : new.gone_after ≡ old.gone_after → new.discarded ≡ old.discarded → HowMarked covers count draw old new
  marked : covers old ≡ true → new.gone_after ≡ Some count → new.discarded ≡ draw → HowMarked covers count draw old new

-- a place after a discard or a show: unchanged, or discarded now
pub record IsMarked (covers : Place → Bool) (count draw : ℕ) (old new : Place) : Type 0 where
  pub owner : new.owner ≡ old.owner
  pub street : new.street ≡ old.street
  pub index : new.index ≡ old.index
  pub number : new.number ≡ old.number
  pub past_deck : new.past_deck ≡ old.past_deck
  pub how : HowMarked covers count draw old new

-- so are all places of a list
abbrev pub AreMarked : (covers : Place → Bool) (count draw : ℕ) → List Place → List Place → Type 0
AreMarked covers count draw [] [] = Unit {0}
AreMarked covers count draw [] (new ∷ news) = ⊥
AreMarked covers count draw (old ∷ olds) [] = ⊥
AreMarked covers count draw (old ∷ olds) (new ∷ news) = IsMarked covers count draw old new × AreMarked covers count draw olds news

marked_same : (covers : Place → Bool) (count draw : ℕ) (place : Place) → IsMarked covers count draw place place
marked_same covers count draw place = record { owner = refl; street = refl; index = refl; number = refl; past_deck = refl; how = kept refl refl }

-- a discard marks
out_marks : (covers : Place → Bool) (count draw : ℕ) (place : Place) (slot : Slot) → covers place ≡ true → IsMarked covers count draw place (discarded_now draw count (record place { slot = slot }))
out_marks covers count draw place slot covered = record { owner = refl; street = refl; index = refl; number = refl; past_deck = refl; how = marked covered refl refl }

out_maybe : (covers : Place → Bool) (count draw : ℕ) (place : Place) (b : Bool) → covers place ≡ true → IsMarked covers count draw place (if b then discarded_now draw count place else place)
out_maybe covers count draw place true covered = record { owner = refl; street = refl; index = refl; number = refl; past_deck = refl; how = marked covered refl refl }
out_maybe covers count draw place false covered = marked_same covers count draw place

out_found : (covers : Place → Bool) (count draw : ℕ) (names : List Card) (slot : Slot) (others : List Card) (blanks : ℕ) (place : Place) → covers place ≡ true → IsMarked covers count draw place (matched_card (discarded_now draw count) names slot others blanks place).place
out_found covers count draw names (slots.Known card) others blanks place covered = out_maybe covers count draw place (is_named card names) covered
out_found covers count draw names slots.Unknown (card ∷ others) blanks place covered = out_marks covers count draw place (slots.Known card) covered
out_found covers count draw names slots.Unknown [] zero place covered = marked_same covers count draw place
out_found covers count draw names slots.Unknown [] (suc blanks) place covered = record { owner = refl; street = refl; index = refl; number = refl; past_deck = refl; how = marked covered refl refl }

out_step : (covers : Place → Bool) (count draw : ℕ) (names others : List Card) (blanks : ℕ) (place : Place) (rest : List Place) (c : Bool) → covers place ≡ c → ((os : List Card) (n : ℕ) → AreMarked covers count draw rest (after_matching covers (discarded_now draw count) names os n rest)) → AreMarked covers count draw (place ∷ rest) (if c then (let found = matched_card (discarded_now draw count) names place.slot others blanks place in found.place ∷ after_matching covers (discarded_now draw count) names found.others found.blanks rest) else (place ∷ after_matching covers (discarded_now draw count) names others blanks rest))
out_step covers count draw names others blanks place rest true covered later =
    (out_found covers count draw names place.slot others blanks place covered, later (matched_card (discarded_now draw count) names place.slot others blanks place).others (matched_card (discarded_now draw count) names place.slot others blanks place).blanks)
out_step covers count draw names others blanks place rest false covered later = (marked_same covers count draw place, later others blanks)

-- a discard marks places of its hand
pub discard_marks : (covers : Place → Bool) (count draw : ℕ) (names others : List Card) (blanks : ℕ) (placed : List Place) → AreMarked covers count draw placed (after_matching covers (discarded_now draw count) names others blanks placed)
discard_marks covers count draw names others blanks [] = tt
discard_marks covers count draw names others blanks (place ∷ rest) =
    out_step covers count draw names others blanks place rest (covers place) refl (λ os n. discard_marks covers count draw names os n rest)

-- a show marks nothing
show_maybe : (covers : Place → Bool) (count draw : ℕ) (place : Place) (b : Bool) → IsMarked covers count draw place (if b then place else place)
show_maybe covers count draw place true = marked_same covers count draw place
show_maybe covers count draw place false = marked_same covers count draw place

show_found : (covers : Place → Bool) (count draw : ℕ) (names : List Card) (slot : Slot) (others : List Card) (blanks : ℕ) (place : Place) → IsMarked covers count draw place (matched_card (λ (p : Place). p) names slot others blanks place).place
show_found covers count draw names (slots.Known card) others blanks place = show_maybe covers count draw place (is_named card names)
show_found covers count draw names slots.Unknown (card ∷ others) blanks place = record { owner = refl; street = refl; index = refl; number = refl; past_deck = refl; how = kept refl refl }
show_found covers count draw names slots.Unknown [] zero place = marked_same covers count draw place
show_found covers count draw names slots.Unknown [] (suc blanks) place = marked_same covers count draw place

show_step : (covers other : Place → Bool) (count draw : ℕ) (names others : List Card) (blanks : ℕ) (place : Place) (rest : List Place) (c : Bool) → ((os : List Card) (n : ℕ) → AreMarked other count draw rest (after_matching covers (λ (p : Place). p) names os n rest)) → AreMarked other count draw (place ∷ rest) (if c then (let found = matched_card (λ (p : Place). p) names place.slot others blanks place in found.place ∷ after_matching covers (λ (p : Place). p) names found.others found.blanks rest) else (place ∷ after_matching covers (λ (p : Place). p) names others blanks rest))
show_step covers other count draw names others blanks place rest true later =
    (show_found other count draw names place.slot others blanks place, later (matched_card (λ (p : Place). p) names place.slot others blanks place).others (matched_card (λ (p : Place). p) names place.slot others blanks place).blanks)
show_step covers other count draw names others blanks place rest false later = (marked_same other count draw place, later others blanks)

-- for a cover without places
abbrev pub is_nothing : Place → Bool
is_nothing place = false

-- a show discards nothing
pub show_marks : (covers : Place → Bool) (count draw : ℕ) (names others : List Card) (blanks : ℕ) (placed : List Place) → AreMarked is_nothing count draw placed (after_matching covers (λ (p : Place). p) names others blanks placed)
show_marks covers count draw names others blanks [] = tt
show_marks covers count draw names others blanks (place ∷ rest) =
    show_step covers is_nothing count draw names others blanks place rest (covers place) (λ os n. show_marks covers count draw names os n rest)

-- marks are changes
marked_how : (covers : Place → Bool) (count draw seat : ℕ) (old new : Place) → (covers old ≡ true → (old.gone_after ≡ None) × (old.owner ≡ Some seat)) → HowMarked covers count draw old new → HowGone count draw seat old new
marked_how covers count draw seat old new there (kept gone same) = stays gone same
marked_how covers count draw seat old new there (marked covered now on) = out (there covered).0 now on (there covered).1

marked_change : (covers : Place → Bool) (count draw seat : ℕ) (old new : Place) → (covers old ≡ true → (old.gone_after ≡ None) × (old.owner ≡ Some seat)) → IsMarked covers count draw old new → IsChange count draw seat old new
marked_change covers count draw seat old new there is = record { owner = is.owner; street = is.street; number = is.number; past_deck = is.past_deck; how = marked_how covers count draw seat old new there is.how }

-- places that are marked are not changed by a deal
pub marked_changed : (covers : Place → Bool) (count draw seat : ℕ) (olds news : List Place) → ((old : Place) → covers old ≡ true → (old.gone_after ≡ None) × (old.owner ≡ Some seat)) → AreMarked covers count draw olds news → AreChanged count draw seat olds news
marked_changed covers count draw seat [] [] there is = tt
marked_changed covers count draw seat [] (new ∷ news) there is = absurd is
marked_changed covers count draw seat (old ∷ olds) [] there is = absurd is
marked_changed covers count draw seat (old ∷ olds) (new ∷ news) there is = (marked_change covers count draw seat old new (there old) is.0, marked_changed covers count draw seat olds news there is.1)

-- and what is gone is decided as before
gone_how : (code : Code) (moves : List Move) (newest : ℕ) (covers : Place → Bool) (count draw : ℕ) (placed : List Place) (old new : Place) → PlacesLaw code moves newest placed → IsAmong placed old → 1 ≤ draw → new.owner ≡ old.owner → HowMarked covers count draw old new → is_some new.gone_after ≡ (nat_lt 0 new.discarded || has_owner_folded moves new.owner)
gone_how code moves newest covers count draw placed old new law among some owner (kept gone same) =
    ap is_some gone ∙ law.gone_is old among ∙ ap (λ d. nat_lt 0 d || has_owner_folded moves old.owner) (sym same) ∙ ap (λ o. nat_lt 0 new.discarded || has_owner_folded moves o) (sym owner)
gone_how code moves newest covers count draw placed old new law among some owner (marked covered now on) =
    ap is_some now ∙ sym (or_left (nat_lt 0 new.discarded) (has_owner_folded moves new.owner) (lt-ltb 0 new.discarded (omega (arith, on, some))))

gone_marked : (code : Code) (moves : List Move) (newest : ℕ) (covers : Place → Bool) (count draw : ℕ) (placed olds news : List Place) → PlacesLaw code moves newest placed → ((old : Place) → IsAmong olds old → IsAmong placed old) → 1 ≤ draw → AreMarked covers count draw olds news → (new : Place) → IsAmong news new → is_some new.gone_after ≡ (nat_lt 0 new.discarded || has_owner_folded moves new.owner)
gone_marked code moves newest covers count draw placed [] [] law sub some is new among = absurd among
gone_marked code moves newest covers count draw placed [] (first ∷ news) law sub some is new among = absurd is
gone_marked code moves newest covers count draw placed (old ∷ olds) [] law sub some is new among = absurd among
gone_marked code moves newest covers count draw placed (old ∷ olds) (first ∷ news) law sub some is new (inl same) =
    let P : Place → Type 0 = λ place. is_some place.gone_after ≡ (nat_lt 0 place.discarded || has_owner_folded moves place.owner) in
    subst P same (gone_how code moves newest covers count draw placed old first law (sub old (inl refl)) some is.0.owner is.0.how)
gone_marked code moves newest covers count draw placed (old ∷ olds) (first ∷ news) law sub some is new (inr later) =
    gone_marked code moves newest covers count draw placed olds news law (λ other in_olds. sub other (inr in_olds)) some is.1 new later

-- and what is discarded was dealt before
out_how : (code : Code) (moves : List Move) (newest : ℕ) (covers : Place → Bool) (count draw : ℕ) (placed : List Place) (old new : Place) → PlacesLaw code moves newest placed → IsAmong placed old → (covers old ≡ true → old.street < draw) → new.street ≡ old.street → HowMarked covers count draw old new → 0 < new.discarded → new.street < new.discarded
out_how code moves newest covers count draw placed old new law among early here (kept gone same) some = omega (arith, here, same, law.out_after old among (omega (arith, same, some)))
out_how code moves newest covers count draw placed old new law among early here (marked covered now on) some = omega (arith, here, on, early covered)

out_marked : (code : Code) (moves : List Move) (newest : ℕ) (covers : Place → Bool) (count draw : ℕ) (placed olds news : List Place) → PlacesLaw code moves newest placed → ((old : Place) → IsAmong olds old → IsAmong placed old) → ((old : Place) → IsAmong placed old → covers old ≡ true → old.street < draw) → AreMarked covers count draw olds news → (new : Place) → IsAmong news new → 0 < new.discarded → new.street < new.discarded
out_marked code moves newest covers count draw placed [] [] law sub early is new among = absurd among
out_marked code moves newest covers count draw placed [] (first ∷ news) law sub early is new among = absurd is
out_marked code moves newest covers count draw placed (old ∷ olds) [] law sub early is new among = absurd among
out_marked code moves newest covers count draw placed (old ∷ olds) (first ∷ news) law sub early is new (inl same) =
    let P : Place → Type 0 = λ place. 0 < place.discarded → place.street < place.discarded in
    subst P same (out_how code moves newest covers count draw placed old first law (sub old (inl refl)) (early old (sub old (inl refl))) is.0.street is.0.how)
out_marked code moves newest covers count draw placed (old ∷ olds) (first ∷ news) law sub early is new (inr later) =
    out_marked code moves newest covers count draw placed olds news law (λ other in_olds. sub other (inr in_olds)) early is.1 new later

-- a discard or a show keeps the law
pub marks_law : (code : Code) (moves : List Move) (newest draw seat : ℕ) (covers : Place → Bool) (olds news : List Place) → PlacesLaw code moves newest olds → newest ≤ draw → 1 ≤ draw → ((old : Place) → covers old ≡ true → (old.gone_after ≡ None) × (old.owner ≡ Some seat)) → ((old : Place) → IsAmong olds old → covers old ≡ true → old.street < draw) → AreMarked covers (length olds) draw olds news → PlacesLaw code moves draw news
marks_law code moves newest draw seat covers olds news law on some there early is =
    change_law code moves moves newest draw seat olds news law
    (record {
      changed = marked_changed covers (length olds) draw seat olds news there is;
      on = on;
      some = some;
      still = λ owner by was. was;
      back = λ place by among was. inl was;
      gone_is = gone_marked code moves newest covers (length olds) draw olds olds news law (λ old among. among) some is;
      out_after = out_marked code moves newest covers (length olds) draw olds olds news law (λ old among. among) early is;
    })

-- a fold keeps the law
fold_change : (seat count draw : ℕ) (place : Place) (b : Bool) → (b ≡ true → (place.gone_after ≡ None) × (place.owner ≡ Some seat)) → IsChange count draw seat place (if b then gone_now count place else place)
fold_change seat count draw place true held = record { owner = refl; street = refl; number = refl; past_deck = refl; how = folds (held refl).0 refl refl (held refl).1 }
fold_change seat count draw place false held = record { owner = refl; street = refl; number = refl; past_deck = refl; how = stays refl refl }

-- a card that a seat holds is there, and is its own
pub held_parts : (seat : ℕ) (place : Place) → is_held_by seat place ≡ true → (place.gone_after ≡ None) × (place.owner ≡ Some seat)
held_parts seat place held = (held_is_there seat place held, is_same_owner-true place.owner (Some seat) (and_parts (is_same_owner place.owner (Some seat)) (is_none place.gone_after) held).0)

-- a fold changes places without a deal
pub fold_changed : (seat count draw : ℕ) (placed : List Place) → AreChanged count draw seat placed (map (folded_place seat count) placed)
fold_changed seat count draw [] = tt
fold_changed seat count draw (place ∷ rest) = (fold_change seat count draw place (is_held_by seat place) (held_parts seat place), fold_changed seat count draw rest)

-- who folds has folded
pub folded_own : (move : Move) (moves : List Move) (owner : Option ℕ) → is_folding move.act ≡ true → owner ≡ Some move.seat → has_owner_folded (move ∷ moves) owner ≡ true
folded_own move moves owner is mine =
    let P : Option ℕ → Type 0 = λ o. has_owner_folded (move ∷ moves) o ≡ true in
    subst P (sym mine) (ap not (not_from_true (is_fold_of move.seat move || list_any (is_fold_of move.seat) moves) (or_left (is_fold_of move.seat move) (list_any (is_fold_of move.seat) moves) (and_from (is_folding move.act) (move.seat == move.seat) is (eq-eqb move.seat move.seat refl)))))

-- no other owner has
pub folded_other : (move : Move) (moves : List Move) (owner : Option ℕ) (b : Bool) → is_same_owner owner (Some move.seat) ≡ b → b ≡ false → has_owner_folded (move ∷ moves) owner ≡ has_owner_folded moves owner
folded_other move moves None b same is = refl
folded_other move moves (Some seat) b same is =
    let differ : (move.seat == seat) ≡ false = ne_eqb move.seat seat (λ one. false_true (sym is ∙ (sym same ∙ eq-eqb seat move.seat (sym one)))) in
    ap (λ b. not (not (b || list_any (is_fold_of seat) moves))) (and_right (is_folding move.act) (move.seat == seat) differ)

gone_fold : (move : Move) (moves : List Move) (count : ℕ) (place : Place) (o g : Bool) → is_folding move.act ≡ true → is_same_owner place.owner (Some move.seat) ≡ o → is_none place.gone_after ≡ g → is_some place.gone_after ≡ (nat_lt 0 place.discarded || has_owner_folded moves place.owner) → is_some (if o && g then gone_now count place else place).gone_after ≡ (nat_lt 0 place.discarded || has_owner_folded (move ∷ moves) place.owner)
gone_fold move moves count place true true fold owner gone was =
    sym (or_right (nat_lt 0 place.discarded) (has_owner_folded (move ∷ moves) place.owner) (folded_own move moves place.owner fold (is_same_owner-true place.owner (Some move.seat) owner)))
gone_fold move moves count place true false fold owner gone was =
    not-false (is_some place.gone_after) (sym (some_or_none place.gone_after) ∙ gone)
    ∙ sym (or_right (nat_lt 0 place.discarded) (has_owner_folded (move ∷ moves) place.owner) (folded_own move moves place.owner fold (is_same_owner-true place.owner (Some move.seat) owner)))
gone_fold move moves count place false g fold owner gone was =
    was ∙ ap (λ f. nat_lt 0 place.discarded || f) (sym (folded_other move moves place.owner false owner refl))

same_discarded : (count : ℕ) (place : Place) (b : Bool) → (if b then gone_now count place else place).discarded ≡ place.discarded
same_discarded count place true = refl
same_discarded count place false = refl

same_place_owner : (count : ℕ) (place : Place) (b : Bool) → (if b then gone_now count place else place).owner ≡ place.owner
same_place_owner count place true = refl
same_place_owner count place false = refl

gone_folds : (code : Code) (move : Move) (moves : List Move) (newest count : ℕ) (placed olds : List Place) → PlacesLaw code moves newest placed → is_folding move.act ≡ true → ((old : Place) → IsAmong olds old → IsAmong placed old) → (new : Place) → IsAmong (map (folded_place move.seat count) olds) new → is_some new.gone_after ≡ (nat_lt 0 new.discarded || has_owner_folded (move ∷ moves) new.owner)
gone_folds code move moves newest count placed [] law fold sub new among = absurd among
gone_folds code move moves newest count placed (old ∷ olds) law fold sub new (inl same) =
    let P : Place → Type 0 = λ place. is_some place.gone_after ≡ (nat_lt 0 place.discarded || has_owner_folded (move ∷ moves) place.owner) in
    let held : Bool = is_held_by move.seat old in
    subst P same (gone_fold move moves count old (is_same_owner old.owner (Some move.seat)) (is_none old.gone_after) fold refl refl (law.gone_is old (sub old (inl refl)))
    ∙ ap (λ d. nat_lt 0 d || has_owner_folded (move ∷ moves) old.owner) (sym (same_discarded count old held))
    ∙ ap (λ o. nat_lt 0 (if held then gone_now count old else old).discarded || has_owner_folded (move ∷ moves) o) (sym (same_place_owner count old held)))
gone_folds code move moves newest count placed (old ∷ olds) law fold sub new (inr later) = gone_folds code move moves newest count placed olds law fold (λ other among. sub other (inr among)) new later

out_folds : (code : Code) (moves : List Move) (newest count seat : ℕ) (placed olds : List Place) → PlacesLaw code moves newest placed → ((old : Place) → IsAmong olds old → IsAmong placed old) → (new : Place) → IsAmong (map (folded_place seat count) olds) new → 0 < new.discarded → new.street < new.discarded
out_folds code moves newest count seat placed [] law sub new among = absurd among
out_folds code moves newest count seat placed (old ∷ olds) law sub new (inl same) =
    let P : Place → Type 0 = λ place. 0 < place.discarded → place.street < place.discarded in
    subst P same (by_held (is_held_by seat old))
  where
    by_held : (b : Bool) → 0 < (if b then gone_now count old else old).discarded → (if b then gone_now count old else old).street < (if b then gone_now count old else old).discarded
    by_held true some = law.out_after old (sub old (inl refl)) some
    by_held false some = law.out_after old (sub old (inl refl)) some
out_folds code moves newest count seat placed (old ∷ olds) law sub new (inr later) = out_folds code moves newest count seat placed olds law (λ other among. sub other (inr among)) new later

-- a fold keeps the law of places
pub fold_law : (code : Code) (move : Move) (moves : List Move) (newest : ℕ) (placed : List Place) → PlacesLaw code moves newest placed → is_folding move.act ≡ true → newest ≤ move.street → 1 ≤ move.street → PlacesLaw code (move ∷ moves) move.street (after_fold move.seat placed)
fold_law code move moves newest placed law fold on some =
    change_law code moves (move ∷ moves) newest move.street move.seat placed (after_fold move.seat placed) law
    (record {
      changed = fold_changed move.seat (length placed) move.street placed;
      on = on;
      some = some;
      still = λ owner by was. folded_more move moves by owner was;
      back = λ place by among was. elim (folded_back move moves by place.owner was) [
        | inl before ↦ inl before
        | inr now ↦ inr (omega (arith, law.reached place among, on, now.1.1))
      ];
      gone_is = gone_folds code move moves newest (length placed) placed placed law fold (λ old among. among);
      out_after = out_folds code moves newest (length placed) move.seat placed placed law (λ old among. among);
    })

-- a move that is no fold does not change who has folded
pub other_before : (move : Move) (moves : List Move) (by : ℕ) (owner : Option ℕ) → is_folding move.act ≡ false → has_owner_folded (moves_before by (move ∷ moves)) owner ≡ has_owner_folded (moves_before by moves) owner
other_before move moves by owner is = by_street (nat_lt move.street by)
  where
    by_street : (b : Bool) → has_owner_folded (if b then (move ∷ moves_before by moves) else moves_before by moves) owner ≡ has_owner_folded (moves_before by moves) owner
    by_street true = unfolded_first move (moves_before by moves) owner is
    by_street false = refl

stays_all : (count draw seat : ℕ) (placed : List Place) → AreChanged count draw seat placed placed
stays_all count draw seat [] = tt
stays_all count draw seat (place ∷ rest) = (record { owner = refl; street = refl; number = refl; past_deck = refl; how = stays refl refl }, stays_all count draw seat rest)

-- and keeps the law of places
pub move_law : (code : Code) (move : Move) (moves : List Move) (newest : ℕ) (placed : List Place) → PlacesLaw code moves newest placed → is_folding move.act ≡ false → newest ≤ move.street → 1 ≤ move.street → PlacesLaw code (move ∷ moves) move.street placed
move_law code move moves newest placed law no_fold on some =
    change_law code moves (move ∷ moves) newest move.street move.seat placed placed law
    (record {
      changed = stays_all (length placed) move.street move.seat placed;
      on = on;
      some = some;
      still = λ owner by was. other_before move moves by owner no_fold ∙ was;
      back = λ place by among was. inl (sym (other_before move moves by place.owner no_fold) ∙ was);
      gone_is = λ new among. law.gone_is new among ∙ ap (λ f. nat_lt 0 new.discarded || f) (sym (unfolded_first move moves new.owner no_fold));
      out_after = law.out_after;
    })
