-- There are as many lowest ranks as bits of the low ranks, up to five.
use Rattle.std.proofs.Common.{◌≡◌, ℕ, zero, suc, ◌+◌, ◌-◌, ◌<◌, ◌≤◌, ◌==◌, ◌^◌, Bool, true, false, cond, [], ◌∷◌, ◌++◌, length, refl, sym, ◌∙◌, ap, arith, bit_and, count_ones, length-append}
use Rattle.std.specs.Int.{bit_at}
use Rattle.std.proofs.lemmas.Nat.{and_le_l}
use Rattle.std.proofs.lemmas.Nat.Bits.{bit_at_and, bit_at-lt}
use Rattle.hand_order.specs.Lowest.{has_height, lowest}
use Rattle.hand_order.proofs.LowestLaws.{lowest_some}
use Rattle.card_set.proofs.Bits.{bit_counts, first_sum, first_sum-agree, ones_sum}

-- one for a height that passes
abbrev pub passing : (ℕ → Bool) → ℕ → ℕ
passing has h = cond (has h) 1 0

-- at most as many heights as pass
lowest_counted : (has : ℕ → Bool) (heights from need : ℕ) → length (lowest has heights from need) ≤ first_sum (λ k. passing has (from + k)) heights
unfolding first_sum
lowest_counted has zero from need = omega arith
lowest_counted has (suc heights) from need =
    let next = first_sum-agree (λ k. passing has (from + 1 + k)) (λ k. passing has (from + suc k)) heights (λ k. ap (passing has) (omega arith)) in
    let first = ap (passing has) {x = from + 0} {y = from} (omega arith) in
    by_tests (need == 0) (has from) (first_sum (λ k. passing has (from + suc k)) heights) (passing has (from + 0)) first
    (omega (arith, next, lowest_counted has heights (from + 1) (need - 1))) (omega (arith, next, lowest_counted has heights (from + 1) need))
  where
    by_tests : (z b : Bool) (rest here : ℕ) → here ≡ cond b 1 0 → length (lowest has heights (from + 1) (need - 1)) ≤ rest → length (lowest has heights (from + 1) need) ≤ rest → length {A = ℕ} (cond z [] (cond b (lowest has heights (from + 1) (need - 1) ++ from ∷ []) (lowest has heights (from + 1) need))) ≤ here + rest
    by_tests true b rest here is fewer same = omega arith
    by_tests false true rest here is fewer same = omega (arith, is, fewer, length-append (lowest has heights (from + 1) (need - 1)) (from ∷ []))
    by_tests false false rest here is fewer same = omega (arith, same)

-- as many as are asked for, if that many pass
lowest_full : (has : ℕ → Bool) (heights from need : ℕ) → need ≤ first_sum (λ k. passing has (from + k)) heights → length (lowest has heights from need) ≡ need
unfolding first_sum
lowest_full has zero from need enough = omega arith
lowest_full has (suc heights) from zero enough = refl
lowest_full has (suc heights) from (suc m) enough =
    let next = first_sum-agree (λ k. passing has (from + 1 + k)) (λ k. passing has (from + suc k)) heights (λ k. ap (passing has) (omega arith)) in
    let first = ap (passing has) {x = from + 0} {y = from} (omega arith) in
    ap (length {A = ℕ}) (lowest_some has heights from m)
    ∙ by_test (has from) (first_sum (λ k. passing has (from + 1 + k)) heights) (omega (arith, enough, next, first)) (lowest_full has heights (from + 1) m) (lowest_full has heights (from + 1) (suc m))
  where
    by_test : (b : Bool) (rest : ℕ) → suc m ≤ cond b 1 0 + rest → (m ≤ rest → length (lowest has heights (from + 1) m) ≡ m) → (suc m ≤ rest → length (lowest has heights (from + 1) (suc m)) ≡ suc m) → length {A = ℕ} (cond b (lowest has heights (from + 1) m ++ from ∷ []) (lowest has heights (from + 1) (suc m))) ≡ suc m
    by_test true rest enough fewer same = omega (arith, fewer (omega (arith, enough)), length-append (lowest has heights (from + 1) m) (from ∷ []))
    by_test false rest enough fewer same = same (omega (arith, enough))

-- the bit of a low rank is kept, and any other is dropped
kept : (all k : ℕ) → bit_at 4223 k ≡ 1 → bit_at (bit_and all 4223) k ≡ bit_at all k
kept all k set = omega (arith, bit_at_and all 4223 k, bit_at-lt all k, set)

dropped : (all k : ℕ) → bit_at 4223 k ≡ 0 → bit_at (bit_and all 4223) k ≡ 0
dropped all k off = omega (arith, bit_at_and all 4223 k, off)

low_of_sixteen : (f : ℕ → ℕ) → f 7 ≡ 0 → f 8 ≡ 0 → f 9 ≡ 0 → f 10 ≡ 0 → f 11 ≡ 0 → f 13 ≡ 0 → f 14 ≡ 0 → f 15 ≡ 0 → first_sum f 16 ≡ f 12 + f 0 + f 1 + f 2 + f 3 + f 4 + f 5 + f 6
unfolding first_sum
low_of_sixteen f seventh eighth ninth tenth eleventh thirteenth fourteenth fifteenth = omega arith

all_of_eight : (f : ℕ → ℕ) → first_sum f 8 ≡ f 0 + f 1 + f 2 + f 3 + f 4 + f 5 + f 6 + f 7
unfolding first_sum
all_of_eight f = omega arith

-- equal values have equal sums
same_sum : (a b c d e f g h i j k l m n o p : ℕ) → a ≡ i → b ≡ j → c ≡ k → d ≡ l → e ≡ m → f ≡ n → g ≡ o → h ≡ p → a + b + c + d + e + f + g + h ≡ i + j + k + l + m + n + o + p
same_sum a b c d e f g h i j k l m n o p first second third fourth fifth sixth seventh eighth = omega arith

-- the bit of a height says whether it passes
says : (all place h : ℕ) → passing (has_height all) h ≡ cond (bit_at all place == 1) 1 0 → bit_at 4223 place ≡ 1 → passing (has_height all) h ≡ bit_at (bit_and all 4223) place
says all place h is set = omega (arith, is, bit_counts all place, kept all place set)

-- the ace and the ranks from two to eight are the low ones
low_ranks : (all : ℕ) → all < 2 ^ 16 → first_sum (λ k. passing (has_height all) (1 + k)) 8 ≡ count_ones (bit_and all 4223)
low_ranks all small =
    let f = bit_at (bit_and all 4223) in
    let q = λ (k : ℕ). passing (has_height all) (1 + k) in
    all_of_eight q
    ∙ same_sum (q 0) (q 1) (q 2) (q 3) (q 4) (q 5) (q 6) (q 7) (f 12) (f 0) (f 1) (f 2) (f 3) (f 4) (f 5) (f 6)
    (says all 12 1 refl refl) (says all 0 2 refl refl) (says all 1 3 refl refl) (says all 2 4 refl refl) (says all 3 5 refl refl) (says all 4 6 refl refl) (says all 5 7 refl refl) (says all 6 8 refl refl)
    ∙ sym (low_of_sixteen f (dropped all 7 refl) (dropped all 8 refl) (dropped all 9 refl) (dropped all 10 refl) (dropped all 11 refl) (dropped all 13 refl) (dropped all 14 refl) (dropped all 15 refl))
    ∙ sym (ones_sum 16 (bit_and all 4223) (omega (arith, and_le_l all 4223, small)))

pub low_ranks_few : (all : ℕ) → all < 2 ^ 16 → length (lowest (has_height all) 8 1 5) ≤ count_ones (bit_and all 4223)
low_ranks_few all small = omega (arith, lowest_counted (has_height all) 8 1 5, low_ranks all small)

pub low_ranks_five : (all : ℕ) → all < 2 ^ 16 → 5 ≤ count_ones (bit_and all 4223) → length (lowest (has_height all) 8 1 5) ≡ 5
low_ranks_five all small many = lowest_full (has_height all) 8 1 5 (omega (arith, low_ranks all small, many))
