-- How many cards an owner has on the table after a deal, a fold, a discard or a show.
use Rattle.std.proofs.Common.{◌≡◌, ℕ, zero, suc, ◌+◌, ◌≤◌, Bool, true, false, ◌&&◌, cond, if◌then◌else◌, is_none, Option, None, List, [], ◌∷◌, ◌++◌, map, filter, length, count_by, refl, ◌∙◌, arith}
use Rattle.std.proofs.lemmas.Bool.{ltb-false}
use Rattle.card_set.proofs.Counting.{count_by-cons}
use Rattle.card_set.specs.declared.card.Card.{Card}
use Rattle.card_set.specs.declared.card.Slot.{Slot}
use Rattle.card_set.specs.declared.card.Slot.TheVariants as slots
use Rattle.card_set.specs.Known.{hides_card, known_among}
use Rattle.play_event.specs.Places.{Place, is_same_owner, is_held_by, places_dealt, folded_place, gone_now, after_fold}
use Rattle.play_event.specs.declared.code.Code.{Code}
use Rattle.play_event.specs.NameMatching.{matched_card, after_matching, after_discard, after_show, discarded_now, is_named, unmatched_names, blanks_in, can_be_named, is_show_of_all, unknown_count}
use Rattle.play_event.specs.CardReasons.{has_no_place}
use Rattle.play_event.specs.Held.{is_held}
use Rattle.card_places.proofs.NamesLeast.{names_least}
use Rattle.card_places.proofs.MarksLeast.{marks_least}

count-join : (p : Place → Bool) (xs ys : List Place) → count_by p (xs ++ ys) ≡ count_by p xs + count_by p ys
count-join p [] ys = omega arith
count-join p (x ∷ xs) ys = omega (arith, count_by-cons p x (xs ++ ys), count_by-cons p x xs, count-join p xs ys)

dealt_held : (owner to : Option ℕ) (street : ℕ) (past_deck : Bool) (index number : ℕ) (cards : List Slot) → count_by (is_held owner) (places_dealt to street past_deck index number cards) ≡ (if is_same_owner to owner then length cards else 0)
dealt_held owner to street past_deck index number [] = by_owner (is_same_owner to owner)
  where
    by_owner : (b : Bool) → ◌≡◌ {A = ℕ} 0 (if b then 0 else 0)
    by_owner true = refl
    by_owner false = refl
dealt_held owner to street past_deck index number (slot ∷ rest) =
    count_by-cons (is_held owner) place (places_dealt to street past_deck (index + 1) (number + 1) rest) ∙ by_owner (is_same_owner to owner) (dealt_held owner to street past_deck (index + 1) (number + 1) rest)
  where
    place : Place
    place = record { owner = to; street = street; index = index; number = number; slot = slot; past_deck = past_deck; gone_after = None; discarded = 0 }

    by_owner : (b : Bool) → count_by (is_held owner) (places_dealt to street past_deck (index + 1) (number + 1) rest) ≡ (if b then length rest else 0) → cond (b && true) 1 0 + count_by (is_held owner) (places_dealt to street past_deck (index + 1) (number + 1) rest) ≡ (if b then length (slot ∷ rest) else 0)
    by_owner true later = omega (arith, later)
    by_owner false later = omega (arith, later)

-- after a deal the owner has that many more
pub deal_held : (owner to : Option ℕ) (street : ℕ) (past_deck : Bool) (index number : ℕ) (cards : List Slot) (placed : List Place) → count_by (is_held owner) (placed ++ places_dealt to street past_deck index number cards) ≡ (if is_same_owner to owner then length cards else 0) + count_by (is_held owner) placed
deal_held owner to street past_deck index number cards placed =
    let news : List Place = places_dealt to street past_deck index number cards in
    omega (arith, count-join (is_held owner) placed news, dealt_held owner to street past_deck index number cards)

-- a change by which no owner gets a card that it did not have
abbrev pub KeepsFewer : Option ℕ → (Place → Place) → Type 0
KeepsFewer owner change = (place : Place) → cond (is_held owner (change place)) 1 0 ≤ cond (is_held owner place) 1 0

gone_none : (b c : Bool) → cond (b && false) 1 0 ≤ cond (b && c) 1 0
gone_none true c = omega arith
gone_none false c = omega arith

pub discarded_fewer : (owner : Option ℕ) (street count : ℕ) → KeepsFewer owner (discarded_now street count)
discarded_fewer owner street count place = gone_none (is_same_owner place.owner owner) (is_none place.gone_after)

pub same_fewer : (owner : Option ℕ) → KeepsFewer owner (λ place. place)
same_fewer owner place = omega arith

folded_fewer : (owner : Option ℕ) (seat count : ℕ) → KeepsFewer owner (folded_place seat count)
folded_fewer owner seat count place = by_held (is_held_by seat place)
  where
    by_held : (b : Bool) → cond (is_held owner (if b then gone_now count place else place)) 1 0 ≤ cond (is_held owner place) 1 0
    by_held true = gone_none (is_same_owner place.owner owner) (is_none place.gone_after)
    by_held false = omega arith

map_fewer : (owner : Option ℕ) (change : Place → Place) (placed : List Place) → KeepsFewer owner change → count_by (is_held owner) (map change placed) ≤ count_by (is_held owner) placed
map_fewer owner change [] fewer = omega arith
map_fewer owner change (place ∷ rest) fewer =
    omega (arith, count_by-cons (is_held owner) (change place) (map change rest), count_by-cons (is_held owner) place rest, fewer place, map_fewer owner change rest fewer)

names_fewer : (owner : Option ℕ) (covers : Place → Bool) (mark : Place → Place) (names others : List Card) (blanks : ℕ) (placed : List Place) → KeepsFewer owner mark → count_by (is_held owner) (after_matching covers mark names others blanks placed) ≤ count_by (is_held owner) placed
names_fewer owner covers mark names others blanks [] fewer = omega arith
names_fewer owner covers mark names others blanks (place ∷ rest) fewer = by_cover (covers place) (λ left n. names_fewer owner covers mark names left n rest fewer)
  where
    both : (new : Place) (left : List Card) (n : ℕ) → cond (is_held owner new) 1 0 ≤ cond (is_held owner place) 1 0 → count_by (is_held owner) (after_matching covers mark names left n rest) ≤ count_by (is_held owner) rest → count_by (is_held owner) (new ∷ after_matching covers mark names left n rest) ≤ count_by (is_held owner) (place ∷ rest)
    both new left n here later = omega (arith, count_by-cons (is_held owner) new (after_matching covers mark names left n rest), count_by-cons (is_held owner) place rest, here, later)

    by_name : (b : Bool) → cond (is_held owner (if b then mark place else place)) 1 0 ≤ cond (is_held owner place) 1 0
    by_name true = fewer place
    by_name false = omega arith

    by_slot : (slot : Slot) (left : List Card) (n : ℕ) → ((left : List Card) (n : ℕ) → count_by (is_held owner) (after_matching covers mark names left n rest) ≤ count_by (is_held owner) rest) → count_by (is_held owner) (let found = matched_card mark names slot left n place in found.place ∷ after_matching covers mark names found.others found.blanks rest) ≤ count_by (is_held owner) (place ∷ rest)
    by_slot (slots.Known card) left n later = both (if is_named card names then mark place else place) left n (by_name (is_named card names)) (later left n)
    by_slot slots.Unknown (card ∷ left) n later = both (mark (record place { slot = slots.Known card })) left n (fewer (record place { slot = slots.Known card })) (later left n)
    by_slot slots.Unknown [] zero later = both place [] 0 (omega arith) (later [] 0)
    by_slot slots.Unknown [] (suc n) later = both (mark place) [] n (fewer place) (later [] n)

    by_cover : (b : Bool) → ((left : List Card) (n : ℕ) → count_by (is_held owner) (after_matching covers mark names left n rest) ≤ count_by (is_held owner) rest) → count_by (is_held owner) (if b then (let found = matched_card mark names place.slot others blanks place in found.place ∷ after_matching covers mark names found.others found.blanks rest) else (place ∷ after_matching covers mark names others blanks rest)) ≤ count_by (is_held owner) (place ∷ rest)
    by_cover true later = by_slot place.slot others blanks later
    by_cover false later = both place others blanks (omega arith) (later others blanks)

pub discard_fewer : (owner : Option ℕ) (street seat : ℕ) (cards : List Slot) (placed : List Place) → count_by (is_held owner) (after_discard street seat cards placed) ≤ count_by (is_held owner) placed
discard_fewer owner street seat cards placed =
    names_fewer owner (is_held_by seat) (discarded_now street (length placed)) (known_among cards) (unmatched_names (filter (is_held_by seat) placed) (known_among cards)) (blanks_in cards) placed (discarded_fewer owner street (length placed))

pub show_fewer : (owner : Option ℕ) (code : Code) (seat : ℕ) (cards : List Card) (placed : List Place) → count_by (is_held owner) (after_show code seat cards placed) ≤ count_by (is_held owner) placed
show_fewer owner code seat cards placed =
    let covers : Place → Bool = can_be_named code seat (is_show_of_all placed seat cards) in
    names_fewer owner covers (λ place. place) cards (unmatched_names (filter covers placed) cards) 0 placed (same_fewer owner)

pub fold_fewer : (owner : Option ℕ) (seat : ℕ) (placed : List Place) → count_by (is_held owner) (after_fold seat placed) ≤ count_by (is_held owner) placed
fold_fewer owner seat placed = map_fewer owner (folded_place seat (length placed)) placed (folded_fewer owner seat (length placed))

unknown_is : (placed : List Place) → unknown_count placed ≡ count_by (λ place. hides_card place.slot) placed
unknown_is [] = refl
unknown_is (place ∷ rest) = omega (arith, count_by-cons (λ (p : Place). hides_card p.slot) place rest, unknown_is rest, by_slot (hides_card place.slot))
  where
    by_slot : (b : Bool) → ◌≡◌ {A = ℕ} (if b then 1 else 0) (cond b 1 0)
    by_slot true = refl
    by_slot false = refl

known_and_blank : (cards : List Slot) → length (known_among cards) + blanks_in cards ≡ length cards
known_and_blank [] = refl
known_and_blank (slots.Known card ∷ rest) = omega (arith, count_by-cons hides_card (slots.Known card) rest, known_and_blank rest)
known_and_blank (slots.Unknown ∷ rest) = omega (arith, count_by-cons hides_card slots.Unknown rest, known_and_blank rest)

-- a discard whose names all find a place takes at least as many cards as it names
pub discard_takes : (street seat : ℕ) (cards : List Slot) (placed : List Place) → has_no_place (filter (is_held_by seat) placed) (known_among cards) (blanks_in cards) ≡ false → count_by (is_held_by seat) (after_discard street seat cards placed) + length cards ≤ count_by (is_held_by seat) placed
discard_takes street seat cards placed found =
    let held : List Place = filter (is_held_by seat) placed in
    let names : List Card = known_among cards in
    let others : List Card = unmatched_names held names in
    let blanks : ℕ = blanks_in cards in
    let fits : length others + blanks ≤ count_by (λ (p : Place). hides_card p.slot) held = ltb-false (count_by (λ (p : Place). hides_card p.slot) held) (length others + blanks) found in
    let taken = marks_least seat street (length placed) names others blanks placed (omega (arith, fits, unknown_is held)) in
    omega (arith, taken, names_least held names names (λ card is. is), known_and_blank cards)
