-- A choice whose ranks and suits all differ has the ranks of the mask that shows them.
use Rattle.std.proofs.Common.{◌≡◌, ℕ, zero, suc, ◌+◌, ◌-◌, ◌^◌, ◌<◌, ◌≤◌, ◌==◌, Bool, true, false, cond, List, [], ◌∷◌, ◌++◌, length, filter, Some, None, inl, inr, refl, sym, ◌∙◌, ap, arith, append-nil, length-append, eq-eqb}
use Rattle.std.specs.Int.{bit_at}
use Rattle.std.proofs.lemmas.Bool.{cases_lt, ne_eqb}
use Rattle.std.proofs.lemmas.List.Elements.{filter-append}
use Rattle.card_set.specs.declared.card.Card.{Card}
use Rattle.card_set.specs.declared.card.Rank.{Rank}
use Rattle.card_set.specs.declared.card.Rank.TheVariants as ranks
use Rattle.card_set.specs.Ranks.{falling_heights, high_ace, low_ace, occurring, ranks_of, times}
use Rattle.card_set.proofs.Counted.{IsHeight-low_ace, all_once, times-cons, times-none}
use Rattle.hand_order.specs.Digits.{class_above}
use Rattle.hand_order.specs.Lowest.{has_height, lowest}
use Rattle.hand_order.proofs.LowestLaws.{lowest_some}
use Rattle.hand_order.proofs.LowHeights.{aces, low_times}
use Rattle.hand_order.proofs.SetCounts.{height_least}
use Rattle.badugi_rank.specs.Badugi.{choice_points, has_nothing_in_common}
use Rattle.badugi_rank.specs.BadugiLaw.{once_each}
use Rattle.badugi_rank.specs.Rainbow.{points_of_ranks, ranks_in}
use Rattle.std.proofs.lemmas.List.{nil_from_length}

-- this number of heights from one on, highest first
abbrev heights_from : ℕ → ℕ → List ℕ
heights_from zero from = []
heights_from (suc heights) from = heights_from heights (from + 1) ++ from ∷ []

-- if enough are asked for, the lowest heights that pass are all that pass
lowest_all : (has : ℕ → Bool) (heights from need : ℕ) → length (filter has (heights_from heights from)) ≤ need → lowest has heights from need ≡ filter has (heights_from heights from)
lowest_all has zero from need few = refl
lowest_all has (suc heights) from zero few = sym (nil_from_length (filter has (heights_from (suc heights) from)) (omega arith))
lowest_all has (suc heights) from (suc m) few =
    lowest_some has heights from m ∙ by_test (has from) (few_or few) (lowest_all has heights (from + 1) m) (lowest_all has heights (from + 1) (suc m)) ∙ sym (filter-append has (heights_from heights (from + 1)) (from ∷ []))
  where
    few_or : length (filter has (heights_from heights (from + 1) ++ from ∷ [])) ≤ suc m → length (filter has (heights_from heights (from + 1)) ++ cond (has from) (from ∷ []) []) ≤ suc m
    few_or few = let long = ap (length {A = ℕ}) (filter-append has (heights_from heights (from + 1)) (from ∷ [])) in omega arith

    by_test : (b : Bool) → length (filter has (heights_from heights (from + 1)) ++ cond b (from ∷ []) []) ≤ suc m
        → (length (filter has (heights_from heights (from + 1))) ≤ m → lowest has heights (from + 1) m ≡ filter has (heights_from heights (from + 1)))
        → (length (filter has (heights_from heights (from + 1))) ≤ suc m → lowest has heights (from + 1) (suc m) ≡ filter has (heights_from heights (from + 1)))
        → cond b (lowest has heights (from + 1) m ++ from ∷ []) (lowest has heights (from + 1) (suc m)) ≡ filter has (heights_from heights (from + 1)) ++ cond b (from ∷ []) []
    by_test true few fewer same = ap (λ (l : List ℕ). l ++ from ∷ []) (fewer (omega (arith, length-append (filter has (heights_from heights (from + 1))) (from ∷ []))))
    by_test false few fewer same = same (omega (arith, length-append (filter has (heights_from heights (from + 1))) [])) ∙ sym (append-nil (filter has (heights_from heights (from + 1))))

-- only the heights that are looked at count
lowest_agree : (has other : ℕ → Bool) (heights from need : ℕ) → ((h : ℕ) → from ≤ h → h < from + heights → has h ≡ other h) → lowest has heights from need ≡ lowest other heights from need
lowest_agree has other zero from need same = refl
lowest_agree has other (suc heights) from need same =
    ap (λ (b : Bool). cond (need == 0) [] (cond b (lowest has heights (from + 1) (need - 1) ++ from ∷ []) (lowest has heights (from + 1) need))) (same from (omega arith) (omega arith))
    ∙ ap (λ (l : List ℕ). cond (need == 0) [] (cond (other from) (l ++ from ∷ []) (lowest has heights (from + 1) need))) (lowest_agree has other heights (from + 1) (need - 1) later)
    ∙ ap (λ (l : List ℕ). cond (need == 0) [] (cond (other from) (lowest other heights (from + 1) (need - 1) ++ from ∷ []) l)) (lowest_agree has other heights (from + 1) need later)
  where
    later : (h : ℕ) → from + 1 ≤ h → h < from + 1 + heights → has h ≡ other h
    later h least below = same h (omega arith) (omega arith)

-- with the ace low, no rank has the height of a high ace
not_fourteen : (rank : Rank) → (low_ace rank == 14) ≡ false
not_fourteen ranks.Two = refl
not_fourteen ranks.Three = refl
not_fourteen ranks.Four = refl
not_fourteen ranks.Five = refl
not_fourteen ranks.Six = refl
not_fourteen ranks.Seven = refl
not_fourteen ranks.Eight = refl
not_fourteen ranks.Nine = refl
not_fourteen ranks.Ten = refl
not_fourteen ranks.Jack = refl
not_fourteen ranks.Queen = refl
not_fourteen ranks.King = refl
not_fourteen ranks.Ace = refl

none_fourteen : (cards : List Card) → times low_ace cards 14 ≡ 0
none_fourteen [] = times-none low_ace 14
none_fourteen (card ∷ rest) =
    let off = ap (λ (b : Bool). cond {A = ℕ} b 1 0) (not_fourteen card.rank) in
    omega (arith, times-cons low_ace card rest 14, off, none_fourteen rest)

-- the bits of a mask are the counts of the cards
abbrev pub ShowsCards : ℕ → List Card → Type 0
ShowsCards mask cards = (k : ℕ) → bit_at mask k ≡ times high_ace cards (k + 2)

bit_of_height : (mask : ℕ) (cards : List Card) (h : ℕ) → ShowsCards mask cards → 1 ≤ h → h ≤ 13 → bit_at mask (cond (h == 1) 12 (h - 2)) ≡ times low_ace cards h
bit_of_height mask cards h shows some few =
    elim (cases_lt 1 h) [
      | inl above ↦
          let back : h - 2 + 2 ≡ h = omega arith in
          ap (λ (b : Bool). bit_at mask (cond b 12 (h - 2))) (ne_eqb h 1 (λ same. omega arith))
          ∙ shows (h - 2) ∙ ap (times high_ace cards) back ∙ sym (low_times cards h (omega arith) few)
      | inr one ↦
          let is_one : h ≡ 1 = omega arith in
          ap (λ (b : Bool). bit_at mask (cond b 12 (h - 2))) (eq-eqb h 1 is_one)
          ∙ shows 12 ∙ sym (aces cards) ∙ ap (times low_ace cards) (sym is_one)
    ]

-- no rank occurs twice, even with the ace high
pub once_high : (cards : List Card) → has_nothing_in_common cards ≡ true → (k : ℕ) → times high_ace cards (k + 2) ≤ 1
once_high cards apart k =
    elim (cases_lt k 12) [
      | inl low ↦ omega (arith, low_times cards (k + 2) (omega arith) (omega arith), once_each cards apart (k + 2))
      | inr high ↦ elim (cases_lt 12 k) [
        | inl past ↦ elim (cases_lt 0 (times high_ace cards (k + 2))) [
          | inl some ↦ absurd (omega (arith, (height_least cards (k + 2) some).1))
          | inr none ↦ omega arith
        ]
        | inr same ↦
            let at : k + 2 ≡ 14 = omega arith in
            let here = ap (times high_ace cards) at in
            omega (arith, here, aces cards, once_each cards apart 1)
      ]
    ]

-- the ranks that occur once
once_ranks : (cards : List Card) → has_nothing_in_common cards ≡ true → (ranks_of low_ace cards ≡ occurring low_ace cards 1) × (length (occurring low_ace cards 1) ≡ length cards)
unfolding ranks_of
once_ranks cards apart =
    let once = all_once low_ace IsHeight-low_ace cards (once_each cards apart) in (
      ap (λ (l : List ℕ). l ++ (occurring low_ace cards 3 ++ (occurring low_ace cards 2 ++ occurring low_ace cards 1))) (nil_from_length (occurring low_ace cards 4) once.0)
          ∙ ap (λ (l : List ℕ). l ++ (occurring low_ace cards 2 ++ occurring low_ace cards 1)) (nil_from_length (occurring low_ace cards 3) once.1)
          ∙ ap (λ (l : List ℕ). l ++ occurring low_ace cards 1) (nil_from_length (occurring low_ace cards 2) once.2),
      once.3,
    )

occurring_from : (cards : List Card) → occurring low_ace cards 1 ≡ filter (λ h. times low_ace cards h == 1) (heights_from 13 1)
unfolding occurring falling_heights
occurring_from cards =
    ap (λ (b : Bool). cond b (14 ∷ filter (λ h. times low_ace cards h == 1) (heights_from 13 1)) (filter (λ h. times low_ace cards h == 1) (heights_from 13 1)))
    (ap (λ (n : ℕ). n == 1) (none_fourteen cards))

-- the ranks of the mask are those of the choice
pub ranks_shown : (mask : ℕ) (cards : List Card) → has_nothing_in_common cards ≡ true → length cards ≤ 4 → ShowsCards mask cards → (ranks_in mask ≡ ranks_of low_ace cards) × (length (ranks_in mask) ≡ length cards)
unfolding ranks_in
ranks_shown mask cards apart few shows =
    let once = once_ranks cards apart in
    let all = occurring_from cards in
    let size = ap (length {A = ℕ}) all in
    let same =
    lowest_agree (has_height mask) (λ h. times low_ace cards h == 1) 13 1 4 (λ h least below. ap (λ (n : ℕ). n == 1) (bit_of_height mask cards h shows least (omega arith)))
    ∙ lowest_all (λ h. times low_ace cards h == 1) 13 1 4 (omega (arith, once.1))
    ∙ sym all in
    let long = ap (length {A = ℕ}) same in
    (same ∙ sym once.0, omega (arith, once.1))

-- and so are the points
pub points_shown : (mask : ℕ) (cards : List Card) → has_nothing_in_common cards ≡ true → length cards ≤ 4 → ShowsCards mask cards → choice_points cards ≡ Some (points_of_ranks mask)
points_shown mask cards apart few shows =
    let shown = ranks_shown mask cards apart few shows in
    ap (λ (b : Bool). cond b (Some (16 ^ 6 - class_above (4 - length cards) (ranks_of low_ace cards))) None) apart
    ∙ ap (λ (n : ℕ). Some (16 ^ 6 - class_above (4 - n) (ranks_of low_ace cards))) (sym shown.1)
    ∙ ap (λ (l : List ℕ). Some (16 ^ 6 - class_above (4 - length (ranks_in mask)) l)) (sym shown.0)
