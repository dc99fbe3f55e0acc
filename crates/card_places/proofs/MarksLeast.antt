-- A discard takes at least as many cards as it names.
use Rattle.std.proofs.Common.{◌≡◌, ℕ, zero, suc, ◌+◌, ◌≤◌, Bool, true, false, ◌&&◌, cond, Some, if◌then◌else◌, List, [], ◌∷◌, filter, length, count_by, refl, ap, arith}
use Rattle.card_set.proofs.Counting.{count_by-cons}
use Rattle.card_set.specs.declared.card.Card.{Card}
use Rattle.card_set.specs.declared.card.Slot.{Slot}
use Rattle.card_set.specs.declared.card.Slot.TheVariants as slots
use Rattle.card_set.specs.Known.{hides_card}
use Rattle.play_event.specs.Places.{Place, is_same_owner, is_held_by}
use Rattle.play_event.specs.NameMatching.{matched_card, after_matching, discarded_now, is_named, is_known_and_named, named_count, unknown_count}

gone_not_held : (b : Bool) → ◌≡◌ {A = ℕ} (cond (b && false) 1 0) 0
gone_not_held true = refl
gone_not_held false = refl

pub marks_least : (seat street count : ℕ) (names others : List Card) (blanks : ℕ) (placed : List Place) → length others + blanks ≤ unknown_count (filter (is_held_by seat) placed)
    → count_by (is_held_by seat) (after_matching (is_held_by seat) (discarded_now street count) names others blanks placed) + named_count names (filter (is_held_by seat) placed) + length others + blanks ≤ count_by (is_held_by seat) placed
marks_least seat street count names others blanks [] fits = omega (arith, fits)
marks_least seat street count names others blanks (place ∷ rest) fits = by_held (is_held_by seat place) refl fits (λ left n less. marks_least seat street count names left n rest less)
  where
    more : (new : Place) (left : List Card) (n : ℕ) (k : ℕ) → cond (is_held_by seat new) 1 0 ≡ k → count_by (is_held_by seat) (new ∷ after_matching (is_held_by seat) (discarded_now street count) names left n rest) ≡ count_by (is_held_by seat) (after_matching (is_held_by seat) (discarded_now street count) names left n rest) + k
    more new left n k is = omega (arith, count_by-cons (is_held_by seat) new (after_matching (is_held_by seat) (discarded_now street count) names left n rest), is)

    by_slot : (slot : Slot) (left : List Card) (n : ℕ) → ◌≡◌ {A = ℕ} (cond (is_held_by seat place) 1 0) 1 → length left + n ≤ (if hides_card slot then 1 else 0) + unknown_count (filter (is_held_by seat) rest)
        → ((left : List Card) (n : ℕ) → length left + n ≤ unknown_count (filter (is_held_by seat) rest) → count_by (is_held_by seat) (after_matching (is_held_by seat) (discarded_now street count) names left n rest) + named_count names (filter (is_held_by seat) rest) + length left + n ≤ count_by (is_held_by seat) rest)
        → count_by (is_held_by seat) (let found = matched_card (discarded_now street count) names slot left n place in found.place ∷ after_matching (is_held_by seat) (discarded_now street count) names found.others found.blanks rest) + ((if is_known_and_named names slot then 1 else 0) + named_count names (filter (is_held_by seat) rest)) + length left + n ≤ 1 + count_by (is_held_by seat) rest
    by_slot (slots.Known card) left n one less later = by_name (is_named card names)
      where
        by_name : (b : Bool) → count_by (is_held_by seat) ((if b then discarded_now street count place else place) ∷ after_matching (is_held_by seat) (discarded_now street count) names left n rest) + ((if b then 1 else 0) + named_count names (filter (is_held_by seat) rest)) + length left + n ≤ 1 + count_by (is_held_by seat) rest
        by_name true = omega (arith, more (discarded_now street count place) left n 0 (gone_not_held (is_same_owner place.owner (Some seat))), later left n (omega (arith, less)))
        by_name false = omega (arith, more place left n 1 one, later left n (omega (arith, less)))
    by_slot slots.Unknown (card ∷ left) n one less later =
        omega (arith, more (discarded_now street count (record place { slot = slots.Known card })) left n 0 (gone_not_held (is_same_owner place.owner (Some seat))), later left n (omega (arith, less)))
    by_slot slots.Unknown [] zero one less later = omega (arith, more place [] 0 1 one, later [] 0 (omega arith))
    by_slot slots.Unknown [] (suc n) one less later =
        omega (arith, more (discarded_now street count place) [] n 0 (gone_not_held (is_same_owner place.owner (Some seat))), later [] n (omega (arith, less)))

    by_held : (b : Bool) → is_held_by seat place ≡ b → length others + blanks ≤ unknown_count (if b then (place ∷ filter (is_held_by seat) rest) else filter (is_held_by seat) rest)
        → ((left : List Card) (n : ℕ) → length left + n ≤ unknown_count (filter (is_held_by seat) rest) → count_by (is_held_by seat) (after_matching (is_held_by seat) (discarded_now street count) names left n rest) + named_count names (filter (is_held_by seat) rest) + length left + n ≤ count_by (is_held_by seat) rest)
        → count_by (is_held_by seat) (if b then (let found = matched_card (discarded_now street count) names place.slot others blanks place in found.place ∷ after_matching (is_held_by seat) (discarded_now street count) names found.others found.blanks rest) else (place ∷ after_matching (is_held_by seat) (discarded_now street count) names others blanks rest)) + named_count names (if b then (place ∷ filter (is_held_by seat) rest) else filter (is_held_by seat) rest) + length others + blanks ≤ count_by (is_held_by seat) (place ∷ rest)
    by_held true here less later =
        let one : ◌≡◌ {A = ℕ} (cond (is_held_by seat place) 1 0) 1 = ap (λ b. cond b 1 0) here in
        omega (arith, by_slot place.slot others blanks one less later, count_by-cons (is_held_by seat) place rest, one)
    by_held false here less later =
        let none : ◌≡◌ {A = ℕ} (cond (is_held_by seat place) 1 0) 0 = ap (λ b. cond b 1 0) here in
        omega (arith, more place others blanks 0 none, later others blanks less, count_by-cons (is_held_by seat) place rest, none)
