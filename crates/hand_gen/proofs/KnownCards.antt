-- If all cards are known, folds and discards leave the same dealt cards; and the first cards of a
-- seat may be discarded.
use Rattle.std.proofs.Common.{◌≡◌, ℕ, zero, suc, ◌+◌, ◌≤◌, Bool, true, false, ◌&&◌, not, nat_lt, if◌then◌else◌, Option, List, [], ◌∷◌, ◌++◌, length, map, filter, take, count_by, refl, sym, ap, subst, ◌∙◌, arith}
use Rattle.std.specs.List.{list_any}
use Rattle.std.proofs.lemmas.Bool.{le-ltb, or_from}
use Rattle.std.proofs.lemmas.List.{length-map}
use Rattle.std.proofs.lemmas.List.Sums.{length-filter}
use Rattle.card_set.specs.declared.card.Card.{Card}
use Rattle.card_set.specs.declared.card.Slot.{Slot}
use Rattle.card_set.specs.declared.card.Slot.TheVariants as slots
use Rattle.card_set.specs.Known.{hides_card, known_among, known_slots}
use Rattle.card_set.proofs.DeckLaws.{is_same_card-self}
use Rattle.play_event.specs.declared.code.Code.{Code}
use Rattle.play_event.specs.CardReasons.{has_no_place}
use Rattle.play_event.specs.NameMatching.{after_discard, after_matching, blanks_in, discarded_now, held_count, is_named, matched_card, unmatched_names, without_name}
use Rattle.play_event.specs.Places.{Place, after_deal, after_fold, folded_place, gone_now, is_held_by, is_past_deck, is_in_group, places_dealt}
use Rattle.play_event.specs.Taken.{has_misplaced_card, is_misplaced, newly_known}

-- the dealt cards, as known cards
abbrev pub borne : List Place → List Slot
borne placed = map (λ (place : Place). place.slot) placed

-- all slots are known
abbrev pub AreKnown : List Slot → Type 0
AreKnown [] = Unit {0}
AreKnown (slots.Known card ∷ rest) = AreKnown rest
AreKnown (slots.Unknown ∷ rest) = ⊥

pub cards_known : (cards : List Card) → AreKnown (known_slots cards)
cards_known [] = tt
cards_known (card ∷ rest) = cards_known rest

first_known : (slot : Slot) (rest : List Slot) → AreKnown (slot ∷ rest) → hides_card slot ≡ false
first_known (slots.Known card) rest known = refl
first_known slots.Unknown rest known = absurd known

rest_known : (slot : Slot) (rest : List Slot) → AreKnown (slot ∷ rest) → AreKnown rest
rest_known (slots.Known card) rest known = known
rest_known slots.Unknown rest known = absurd known

-- so no slot is unknown
pub none_unknown : (placed : List Place) → AreKnown (borne placed) → list_any (λ (place : Place). hides_card place.slot) placed ≡ false
none_unknown [] known = refl
none_unknown (place ∷ rest) known =
    or_from (hides_card place.slot) (list_any (λ (p : Place). hides_card p.slot) rest) (first_known place.slot (borne rest) known) (none_unknown rest (rest_known place.slot (borne rest) known))

-- those that are kept are known too
pub kept_known : (q : Place → Bool) (placed : List Place) → AreKnown (borne placed) → AreKnown (borne (filter q placed))
kept_known q [] known = tt
kept_known q (place ∷ rest) known = by_test (q place) place.slot refl known (kept_known q rest (rest_known place.slot (borne rest) known))
  where
    by_test : (kept : Bool) (slot : Slot) → place.slot ≡ slot → AreKnown (slot ∷ borne rest) → AreKnown (borne (filter q rest)) → AreKnown (borne (if kept then (place ∷ filter q rest) else filter q rest))
    by_test true (slots.Known card) is now later = subst (λ s. AreKnown (s ∷ borne (filter q rest))) (sym is) later
    by_test true slots.Unknown is now later = absurd now
    by_test false slot is now later = later

-- a deal puts its cards after those that were dealt before
dealt_borne : (owner : Option ℕ) (street : ℕ) (late : Bool) (index number : ℕ) (cards : List Slot) → borne (places_dealt owner street late index number cards) ≡ cards
dealt_borne owner street late index number [] = refl
dealt_borne owner street late index number (card ∷ rest) = ap (λ l. card ∷ l) (dealt_borne owner street late (index + 1) (number + 1) rest)

joined_borne : (xs ys : List Place) → borne (xs ++ ys) ≡ borne xs ++ borne ys
joined_borne [] ys = refl
joined_borne (x ∷ xs) ys = ap (λ l. x.slot ∷ l) (joined_borne xs ys)

pub deal_borne : (code : Code) (owner : Option ℕ) (street : ℕ) (cards : List Slot) (placed : List Place) → borne (after_deal code owner street cards placed) ≡ borne placed ++ cards
deal_borne code owner street cards placed =
    let news : List Place = places_dealt owner street (is_past_deck code placed street) (count_by (is_in_group owner street) placed) (length placed) cards in
    joined_borne placed news ∙ ap (λ l. borne placed ++ l) (dealt_borne owner street (is_past_deck code placed street) (count_by (is_in_group owner street) placed) (length placed) cards)

-- a fold leaves the dealt cards the same
pub fold_borne : (seat : ℕ) (placed : List Place) → borne (after_fold seat placed) ≡ borne placed
fold_borne seat placed = each (length placed) placed
  where
    one : (count : ℕ) (place : Place) (held : Bool) → (if held then gone_now count place else place).slot ≡ place.slot
    one count place true = refl
    one count place false = refl

    each : (count : ℕ) (rest : List Place) → borne (map (folded_place seat count) rest) ≡ borne rest
    each count [] = refl
    each count (place ∷ rest) = ap (λ s. s ∷ borne (map (folded_place seat count) rest)) (one count place (is_held_by seat place)) ∙ ap (λ l. place.slot ∷ l) (each count rest)

-- so does a discard of known cards
names_borne : (covers : Place → Bool) (mark : Place → Place) (names others : List Card) (blanks : ℕ) (placed : List Place) → ((place : Place) → (mark place).slot ≡ place.slot) → AreKnown (borne placed) → borne (after_matching covers mark names others blanks placed) ≡ borne placed
names_borne covers mark names others blanks [] marks known = refl
names_borne covers mark names others blanks (place ∷ rest) marks known =
    by_cover (covers place) (λ left n. names_borne covers mark names left n rest marks (rest_known place.slot (borne rest) known))
  where
    marked : (named : Bool) → (if named then mark place else place).slot ≡ place.slot
    marked true = marks place
    marked false = refl

    by_slot : (slot : Slot) → AreKnown (slot ∷ borne rest) → ((left : List Card) (n : ℕ) → borne (after_matching covers mark names left n rest) ≡ borne rest)
        → borne (let found = matched_card mark names slot others blanks place in found.place ∷ after_matching covers mark names found.others found.blanks rest) ≡ place.slot ∷ borne rest
    by_slot (slots.Known card) now later = ap (λ s. s ∷ borne (after_matching covers mark names others blanks rest)) (marked (is_named card names)) ∙ ap (λ l. place.slot ∷ l) (later others blanks)
    by_slot slots.Unknown now later = absurd now

    by_cover : (b : Bool) → ((left : List Card) (n : ℕ) → borne (after_matching covers mark names left n rest) ≡ borne rest)
        → borne (if b then (let found = matched_card mark names place.slot others blanks place in found.place ∷ after_matching covers mark names found.others found.blanks rest) else (place ∷ after_matching covers mark names others blanks rest)) ≡ place.slot ∷ borne rest
    by_cover true later = by_slot place.slot known later
    by_cover false later = ap (λ l. place.slot ∷ l) (later others blanks)

pub discard_borne : (street seat : ℕ) (names : List Slot) (placed : List Place) → AreKnown (borne placed) → borne (after_discard street seat names placed) ≡ borne placed
discard_borne street seat names placed known =
    names_borne (is_held_by seat) (discarded_now street (length placed)) (known_among names) (unmatched_names (filter (is_held_by seat) placed) (known_among names)) (blanks_in names) placed (λ place. refl) known

-- and no card becomes known if all are
none_new : (olds news : List Place) → AreKnown (borne olds) → newly_known olds news ≡ []
none_new [] news known = refl
none_new (old ∷ olds) [] known = refl
none_new (old ∷ olds) (new ∷ news) known =
    ap (λ b. if b && not (hides_card new.slot) then (new ∷ newly_known olds news) else newly_known olds news) (first_known old.slot (borne olds) known)
    ∙ none_new olds news (rest_known old.slot (borne olds) known)

pub none_misplaced : (code : Code) (olds news : List Place) → AreKnown (borne olds) → has_misplaced_card code olds news ≡ false
none_misplaced code olds news known = ap (list_any (is_misplaced code news)) (none_new olds news known)

-- the first cards of a seat are matched with its cards
without_none : (slot : Slot) → without_name slot [] ≡ []
without_none slots.Unknown = refl
without_none (slots.Known card) = refl

none_other : (covered : List Place) (count : ℕ) → AreKnown (borne covered) → unmatched_names covered (known_among (take count (borne covered))) ≡ []
none_other [] zero known = refl
none_other [] (suc count) known = refl
none_other (place ∷ rest) zero known = ap (unmatched_names rest) (without_none place.slot) ∙ none_other rest zero (rest_known place.slot (borne rest) known)
none_other (place ∷ rest) (suc count) known = by_slot place.slot known (none_other rest count)
  where
    by_slot : (slot : Slot) → AreKnown (slot ∷ borne rest) → (AreKnown (borne rest) → unmatched_names rest (known_among (take count (borne rest))) ≡ []) → unmatched_names rest (without_name slot (known_among (slot ∷ take count (borne rest)))) ≡ []
    by_slot (slots.Known card) now later =
        ap (λ b. unmatched_names rest (if b then known_among (take count (borne rest)) else (card ∷ without_name (slots.Known card) (known_among (take count (borne rest)))))) (is_same_card-self card) ∙ later now
    by_slot slots.Unknown now later = absurd now

none_blank : (found : List Slot) (count : ℕ) → AreKnown found → blanks_in (take count found) ≡ 0
none_blank found count known = sym (length-filter hides_card (take count found)) ∙ kept found count known
  where
    kept : (found : List Slot) (count : ℕ) → AreKnown found → length (filter hides_card (take count found)) ≡ 0
    kept [] zero known = refl
    kept [] (suc count) known = refl
    kept (slots.Known card ∷ rest) zero known = refl
    kept (slots.Known card ∷ rest) (suc count) known = kept rest count known
    kept (slots.Unknown ∷ rest) count known = absurd known

pub has_places : (covered : List Place) (count : ℕ) → AreKnown (borne covered) → has_no_place covered (known_among (take count (borne covered))) (blanks_in (take count (borne covered))) ≡ false
has_places covered count known =
    le-ltb (count_by (λ (place : Place). hides_card place.slot) covered) (length (unmatched_names covered (known_among (take count (borne covered)))) + blanks_in (take count (borne covered)))
    (omega (arith, ap (λ (l : List Card). length l) (none_other covered count known), none_blank (borne covered) count known))

taken_few : (count : ℕ) (found : List Slot) → length (take count found) ≤ length found
taken_few zero found = omega arith
taken_few (suc count) [] = omega arith
taken_few (suc count) (slot ∷ rest) = omega (arith, taken_few count rest)

pub few_enough : (seat count : ℕ) (placed : List Place) → nat_lt (held_count placed seat) (length (take count (borne (filter (is_held_by seat) placed)))) ≡ false
few_enough seat count placed =
    le-ltb (held_count placed seat) (length (take count (borne (filter (is_held_by seat) placed))))
    (omega (arith, taken_few count (borne (filter (is_held_by seat) placed)), length-map (filter (is_held_by seat) placed) (λ (place : Place). place.slot), length-filter (is_held_by seat) placed))
