-- The zeros below the lowest bit of a mask are ranks that it does not have.
use lib.Count.{trailing_of_zero}
use Rattle.std.proofs.Common.{◌≡◌, ℕ, zero, suc, ◌+◌, ◌-◌, ◌<◌, ◌≤◌, ◌/◌, ◌^◌, ◌==◌, Bool, true, false, cond, inl, inr, sym, ◌∙◌, ap, arith, eq-eqb, w16}
use Rattle.std.specs.Int.{bit_at, trailing_zeros}
use Rattle.std.proofs.lemmas.Bool.{cases_lt, ne_eqb}
use Rattle.std.proofs.lemmas.Nat.Bits.{bit_at-trailing_zeros, bit_at-zero}
use Rattle.hand_order.specs.Lowest.{has_height}
use Rattle.card_set.proofs.Bits.{moved}

-- the bits below the lowest are not set
below_lowest : (n k : ℕ) → n < 2 ^ 16 → k < trailing_zeros w16 n → bit_at n k ≡ 0
below_lowest n k small below =
    elim (cases_lt 0 n) [
      | inl some ↦ (bit_at-trailing_zeros w16 n some small).2 k below
      | inr none ↦ ap (λ (m : ℕ). bit_at m k) {x = n} {y = 0} (omega arith) ∙ bit_at-zero k
    ]

-- a height from two on has its bit
height_bit : (mask h : ℕ) → 2 ≤ h → has_height mask h ≡ (bit_at mask (h - 2) == 1)
height_bit mask h some = ap (λ (b : Bool). bit_at mask (cond b 12 (h - 2)) == 1) (ne_eqb h 1 (λ one. omega arith))

-- ranks are absent if their bits are not set
pub ranks_absent : (mask from k : ℕ) → mask < 2 ^ 16 → 2 ≤ from → k < trailing_zeros w16 (mask / 2 ^ (from - 2)) → has_height mask (from + k) ≡ false
ranks_absent mask from k small some below =
    let off = below_lowest (mask / 2 ^ (from - 2)) k (omega arith) below in
    let place : k + (from - 2) ≡ from + k - 2 = omega arith in
    let bit = sym (ap (bit_at mask) place) ∙ sym (moved mask (from - 2) k) ∙ off in
    height_bit mask (from + k) (omega arith) ∙ ne_eqb (bit_at mask (from + k - 2)) 1 (λ set. omega arith)

-- and the next is there, if it is one of thirteen
pub rank_next : (mask from : ℕ) → mask < 2 ^ 16 → 2 ≤ from → from + trailing_zeros w16 (mask / 2 ^ (from - 2)) ≤ 13 → has_height mask (from + trailing_zeros w16 (mask / 2 ^ (from - 2))) ≡ true
rank_next mask from small some within =
    let n = mask / 2 ^ (from - 2) in
    elim (cases_lt 0 n) [
      | inl positive ↦
          let place : trailing_zeros w16 n + (from - 2) ≡ from + trailing_zeros w16 n - 2 = omega arith in
          let set = sym (ap (bit_at mask) place) ∙ sym (moved mask (from - 2) (trailing_zeros w16 n)) ∙ (bit_at-trailing_zeros w16 n positive (omega arith)).1 in
          height_bit mask (from + trailing_zeros w16 n) (omega arith) ∙ eq-eqb (bit_at mask (from + trailing_zeros w16 n - 2)) 1 set
      | inr none ↦
          let all : trailing_zeros w16 0 ≡ 16 = trailing_of_zero 16 in
          absurd (omega (arith, all, within, ap (trailing_zeros w16) {x = n} {y = 0} (omega arith)))
    ]

-- from the ace on, if it is absent
pub after_ace : (mask from k tail : ℕ) → mask < 2 ^ 16 → from ≡ 1 → has_height mask from ≡ false → tail ≡ trailing_zeros w16 mask → k < 1 + tail → has_height mask (from + k) ≡ false
after_ace mask from zero tail small one absent is below = ap (has_height mask) {x = from + 0} {y = from} (omega arith) ∙ absent
after_ace mask from (suc k) tail small one absent is below =
    let whole : mask / 2 ^ (2 - 2) ≡ mask = omega arith in
    let same = ap (trailing_zeros w16) whole in
    ap (has_height mask) {x = from + suc k} {y = 2 + k} (omega (arith, one)) ∙ ranks_absent mask 2 k small (omega arith) (omega (arith, same, is, below))

pub next_ace : (mask from tail : ℕ) → mask < 2 ^ 16 → from ≡ 1 → tail ≡ trailing_zeros w16 mask → from + (1 + tail) ≤ 13 → has_height mask (from + (1 + tail)) ≡ true
next_ace mask from tail small one is within =
    let whole : mask / 2 ^ (2 - 2) ≡ mask = omega arith in
    let same = ap (trailing_zeros w16) whole in
    ap (has_height mask) {x = from + (1 + tail)} {y = 2 + trailing_zeros w16 (mask / 2 ^ (2 - 2))} (omega (arith, one, is, same)) ∙ rank_next mask 2 small (omega arith) (omega (arith, one, is, same, within))
