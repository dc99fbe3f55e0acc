-- Lemmas on the bits of numbers: how many are set, bits that several numbers have, the highest bit, and a bit that is cleared.
use lib.Count.{count_leading_zeros, ones}
use Rattle.std.proofs.Common.{◌≡◌, ◌↔◌, ℕ, zero, suc, ◌+◌, ◌-◌, ◌*◌, ◌/◌, ◌%◌, ◌^◌, ◌<◌, ◌≤◌, ◌==◌, Bool, true, false, cond, inl, inr, refl, sym, ◌∙◌, ap, arith, eqb-true, bit_and, count_ones, w16, bit_or}
use Rattle.std.specs.Int.{bit_at, bit_not}
use Rattle.std.proofs.lemmas.Bool.{cases_lt, eqb-false}
use Rattle.std.proofs.lemmas.Nat.{leading_top, ones_cat, ones-le, shr-shr, or_lt}
use Rattle.std.proofs.lemmas.Nat.Bits.{bit_at_above, bit_at_and, bit_at_cat_high, bit_at_clear_other, bit_at_clear_same, bit_at-lt, bit_at_lowest, bit_at_or, bit_at-suc, bit_at-zero}

-- the sum of the first values of a function
unfoldable pub first_sum : (ℕ → ℕ) → ℕ → ℕ
first_sum f zero = 0
first_sum f (suc j) = f 0 + first_sum (λ k. f (suc k)) j

-- functions that agree have one such sum
pub first_sum-agree : (f g : ℕ → ℕ) (j : ℕ) → ((k : ℕ) → f k ≡ g k) → first_sum f j ≡ first_sum g j
unfolding first_sum
first_sum-agree f g zero same = refl
first_sum-agree f g (suc j) same = omega (arith, same 0, first_sum-agree (λ k. f (suc k)) (λ k. g (suc k)) j (λ k. same (suc k)))

-- 0 has no bit
pub no_ones : (n : ℕ) → n ≡ 0 → count_ones n ≡ 0
no_ones n is = omega (arith, ones-le 0 n (omega arith))

-- a number of one bit has as many set bits as its value
pub one_bit : (b : ℕ) → b < 2 → count_ones b ≡ b
unfolding ones
one_bit zero small = refl
one_bit (suc zero) small = refl
one_bit (suc (suc b)) small = absurd (omega arith)

-- as many bits are set as the sum of the bits
pub ones_sum : (j n : ℕ) → n < 2 ^ j → count_ones n ≡ first_sum (bit_at n) j
unfolding first_sum
ones_sum zero n small = no_ones n (omega arith)
ones_sum (suc j) n small =
    let split : n / 2 * 2 ^ 1 + n % 2 ≡ n = omega arith in
    let half : n / 2 < 2 ^ j = omega arith in
    ap count_ones (sym split)
    ∙ ones_cat 1 (n / 2) (n % 2) (omega arith)
    ∙ omega (arith, ones_sum j (n / 2) half, one_bit (n % 2) (omega arith), bit_at_lowest n, first_sum-agree (bit_at (n / 2)) (λ k. bit_at n (suc k)) j (λ k. sym (bit_at-suc n k)))

-- a bit is set or not
pub bit_counts : (n k : ℕ) → cond (bit_at n k == 1) 1 0 ≡ bit_at n k
bit_counts n k = by_test (bit_at n k == 1) refl
  where
    by_test : (b : Bool) → (bit_at n k == 1) ≡ b → cond b 1 0 ≡ bit_at n k
    by_test true is = sym (eqb-true (bit_at n k) 1 is)
    by_test false is = let apart = eqb-false (bit_at n k) 1 is in elim (cases_lt 0 (bit_at n k)) [ inl some ↦ absurd (apart (omega (arith, bit_at-lt n k))) | inr none ↦ omega arith ]

-- one, two, three, or all of four bits are set
pub all_level : (c d h s k : ℕ) → (bit_at (bit_or (bit_or (bit_or c d) h) s) k ≡ 1) ↔ (1 ≤ bit_at c k + bit_at d k + bit_at h k + bit_at s k)
all_level c d h s k =
    (λ set. omega (arith, bit_at_or (bit_or (bit_or c d) h) s k, bit_at_or (bit_or c d) h k, bit_at_or c d k, bit_at-lt c k, bit_at-lt d k, bit_at-lt h k, bit_at-lt s k), λ often. omega (arith, bit_at_or (bit_or (bit_or c d) h) s k, bit_at_or (bit_or c d) h k, bit_at_or c d k, bit_at-lt c k, bit_at-lt d k, bit_at-lt h k, bit_at-lt s k))

pub two_level : (c d h s k : ℕ) → (bit_at (bit_or (bit_or (bit_and c d) (bit_and h s)) (bit_and (bit_or c d) (bit_or h s))) k ≡ 1) ↔ (2 ≤ bit_at c k + bit_at d k + bit_at h k + bit_at s k)
two_level c d h s k =
    let a = bit_at_or (bit_or (bit_and c d) (bit_and h s)) (bit_and (bit_or c d) (bit_or h s)) k in
    let b = bit_at_or (bit_and c d) (bit_and h s) k in
    let e = bit_at_and (bit_or c d) (bit_or h s) k in
    (λ set. omega (arith, a, b, e, bit_at_and c d k, bit_at_and h s k, bit_at_or c d k, bit_at_or h s k, bit_at-lt c k, bit_at-lt d k, bit_at-lt h k, bit_at-lt s k), λ often. omega (arith, a, b, e, bit_at_and c d k, bit_at_and h s k, bit_at_or c d k, bit_at_or h s k, bit_at-lt c k, bit_at-lt d k, bit_at-lt h k, bit_at-lt s k))

pub three_level : (c d h s k : ℕ) → (bit_at (bit_or (bit_and (bit_and c d) (bit_or h s)) (bit_and (bit_and h s) (bit_or c d))) k ≡ 1) ↔ (3 ≤ bit_at c k + bit_at d k + bit_at h k + bit_at s k)
three_level c d h s k =
    let a = bit_at_or (bit_and (bit_and c d) (bit_or h s)) (bit_and (bit_and h s) (bit_or c d)) k in
    let b = bit_at_and (bit_and c d) (bit_or h s) k in
    let e = bit_at_and (bit_and h s) (bit_or c d) k in
    (λ set. omega (arith, a, b, e, bit_at_and c d k, bit_at_and h s k, bit_at_or c d k, bit_at_or h s k, bit_at-lt c k, bit_at-lt d k, bit_at-lt h k, bit_at-lt s k), λ often. omega (arith, a, b, e, bit_at_and c d k, bit_at_and h s k, bit_at_or c d k, bit_at_or h s k, bit_at-lt c k, bit_at-lt d k, bit_at-lt h k, bit_at-lt s k))

pub four_level : (c d h s k : ℕ) → (bit_at (bit_and (bit_and (bit_and c d) h) s) k ≡ 1) ↔ (4 ≤ bit_at c k + bit_at d k + bit_at h k + bit_at s k)
four_level c d h s k =
    (λ set. omega (arith, bit_at_and (bit_and (bit_and c d) h) s k, bit_at_and (bit_and c d) h k, bit_at_and c d k, bit_at-lt c k, bit_at-lt d k, bit_at-lt h k, bit_at-lt s k), λ often. omega (arith, bit_at_and (bit_and (bit_and c d) h) s k, bit_at_and (bit_and c d) h k, bit_at_and c d k, bit_at-lt c k, bit_at-lt d k, bit_at-lt h k, bit_at-lt s k))

-- the highest bit is set
pub top_set : (mask top : ℕ) → 0 < mask → mask < 2 ^ 16 → top ≡ 15 - count_leading_zeros 16 mask → bit_at mask top ≡ 1
top_set mask top some small is =
    let found = leading_top 16 mask some small in
    let j = found.0 in
    let at : top ≡ j = omega (arith, found.1) in
    let split : 1 * 2 ^ j + (mask - 2 ^ j) ≡ mask = omega (arith, found.2) in
    let rest : mask - 2 ^ j < 2 ^ j = omega (arith, found.3) in
    ap (bit_at mask) at ∙ ap (λ (n : ℕ). bit_at n j) (sym split) ∙ bit_at_cat_high 1 j (mask - 2 ^ j) j rest (omega arith) ∙ ap (bit_at 1) {y = 0} (omega arith)

-- and no bit above it is
pub top_highest : (mask top k : ℕ) → 0 < mask → mask < 2 ^ 16 → top ≡ 15 - count_leading_zeros 16 mask → bit_at mask k ≡ 1 → k ≤ top
top_highest mask top k some small is set =
    let found = leading_top 16 mask some small in
    let at : top ≡ found.0 = omega (arith, found.1) in
    elim (cases_lt found.0 k) [
      | inl above ↦ let none = bit_at_above mask (suc found.0) k found.3 (omega arith) in absurd (omega arith)
      | inr within ↦ omega arith
    ]

-- a mask without a bit
pub cleared : (mask index k : ℕ) → mask < 2 ^ 16 → index < 16 → bit_at (bit_and mask (bit_not w16 (1 * 2 ^ index % 2 ^ 16))) k ≡ cond (index == k) 0 (bit_at mask k)
cleared mask index k small within = by_test (index == k) refl
  where
    by_test : (b : Bool) → (index == k) ≡ b → bit_at (bit_and mask (bit_not w16 (1 * 2 ^ index % 2 ^ 16))) k ≡ cond b 0 (bit_at mask k)
    by_test true is = ap (bit_at (bit_and mask (bit_not w16 (1 * 2 ^ index % 2 ^ 16)))) (sym (eqb-true index k is)) ∙ bit_at_clear_same w16 mask index within
    by_test false is = elim (cases_lt k 16) [
      | inl few ↦ bit_at_clear_other w16 mask index within k few (λ same. eqb-false index k is (sym same))
      | inr many ↦
          let none = bit_at_above mask 16 k small many in
          bit_at_and mask (bit_not w16 (1 * 2 ^ index % 2 ^ 16)) k ∙ omega arith
    ]

-- a mask that is shifted down
pub moved : (mask j k : ℕ) → bit_at (mask / 2 ^ j) k ≡ bit_at mask (k + j)
moved mask j k = ap (λ (n : ℕ). n % 2) (shr-shr mask j k) ∙ ap (bit_at mask) (omega arith)

-- a mask without bits has no bit set
pub no_bit : {P : Type 0} (mask k : ℕ) → mask ≡ 0 → bit_at mask k ≡ 1 → P
no_bit mask k none set = let off = ap (λ (m : ℕ). bit_at m k) none ∙ bit_at-zero k in absurd (omega arith)

-- masks of thirteen bits joined
pub or_four : (c d h s : ℕ) → c < 2 ^ 13 → d < 2 ^ 13 → h < 2 ^ 13 → s < 2 ^ 13 → bit_or (bit_or (bit_or c d) h) s < 2 ^ 16
or_four c d h s small_c small_d small_h small_s =
    omega (arith, or_lt 13 (bit_or (bit_or c d) h) s (or_lt 13 (bit_or c d) h (or_lt 13 c d small_c small_d) small_h) small_s)

-- only small places are set
pub place_within : (mask index : ℕ) → mask < 2 ^ 16 → bit_at mask index ≡ 1 → index < 16
place_within mask index small set =
    elim (cases_lt index 16) [ inl within ↦ within | inr past ↦ absurd (omega (arith, bit_at_above mask 16 index small past)) ]
