-- The highest bits of a mask are as many as are asked for, if that many are set.
use Rattle.std.proofs.Common.{◌≡◌, ℕ, zero, suc, ◌+◌, ◌*◌, ◌^◌, ◌%◌, ◌<◌, ◌≤◌, ◌==◌, Bool, cond, [], ◌∷◌, length, inl, inr, refl, ap, arith, eq-eqb, count_ones, w16}
use Rattle.std.specs.Int.{bit_at, bit_not}
use Rattle.std.proofs.Math.Dec.{eqb-suc-suc, eqb-suc-zero, eqb-zero-suc}
use Rattle.std.proofs.lemmas.Bool.{cases_lt, ne_eqb}
use Rattle.std.proofs.lemmas.Nat.{and_le_l}
use Rattle.hand_order.specs.Tops.{highest, lowered, tops}
use Rattle.card_set.proofs.Bits.{cleared, first_sum, first_sum-agree, no_ones, ones_sum, top_set}

-- a sum without one of its values
first_sum_without : (f : ℕ → ℕ) (j p : ℕ) → p < j → first_sum f j ≡ f p + first_sum (λ k. cond (p == k) 0 (f k)) j
unfolding first_sum
first_sum_without f zero p within = absurd (omega arith)
first_sum_without f (suc j) zero within =
    let same = first_sum-agree (λ k. cond (0 == suc k) 0 (f (suc k))) (λ k. f (suc k)) j (λ k. ap (λ (b : Bool). cond b 0 (f (suc k))) (eqb-zero-suc k)) in
    omega (arith, same)
first_sum_without f (suc j) (suc p) within =
    let rest = first_sum_without (λ k. f (suc k)) j p (omega arith) in
    let same = first_sum-agree (λ k. cond (suc p == suc k) 0 (f (suc k))) (λ k. cond (p == k) 0 (f (suc k))) j (λ k. ap (λ (b : Bool). cond b 0 (f (suc k))) (eqb-suc-suc p k)) in
    let here = ap (λ (b : Bool). cond b 0 (f 0)) (eqb-suc-zero p) in
    omega (arith, rest, same, here)

lowered_small : (mask : ℕ) → mask < 2 ^ 16 → lowered mask < 2 ^ 16
lowered_small mask small = omega (arith, and_le_l mask (bit_not w16 (1 * 2 ^ highest mask % 2 ^ 16)), small)

-- one bit fewer without the highest
ones_lowered : (mask : ℕ) → 0 < mask → mask < 2 ^ 16 → count_ones mask ≡ 1 + count_ones (lowered mask)
ones_lowered mask some small =
    let place = highest mask in
    let split = first_sum_without (bit_at mask) 16 place (omega arith) in
    let same = first_sum-agree (bit_at (lowered mask)) (λ k. cond (place == k) 0 (bit_at mask k)) 16 (λ k. cleared mask place k small (omega arith)) in
    omega (arith, ones_sum 16 mask small, ones_sum 16 (lowered mask) (lowered_small mask small), split, same, top_set mask place some small refl)

-- as many as are asked for, if that many are set
pub tops_many : (n mask : ℕ) → mask < 2 ^ 16 → n ≤ count_ones mask → length (tops n mask) ≡ n
tops_many zero mask small many = refl
tops_many (suc n) mask small many =
    elim (cases_lt 0 mask) [
      | inl some ↦
          let here = ap (λ (b : Bool). length {A = ℕ} (cond b [] ((highest mask + 2) ∷ tops n (lowered mask)))) (ne_eqb mask 0 (λ none. omega arith)) in
          omega (arith, here, tops_many n (lowered mask) (lowered_small mask small) (omega (arith, ones_lowered mask some small)))
      | inr none ↦ absurd (omega (arith, no_ones mask (omega arith)))
    ]

-- and at most as many as are set
pub tops_few_ones : (n mask : ℕ) → mask < 2 ^ 16 → length (tops n mask) ≤ count_ones mask
tops_few_ones zero mask small = omega arith
tops_few_ones (suc n) mask small =
    elim (cases_lt 0 mask) [
      | inl some ↦
          let here = ap (λ (b : Bool). length {A = ℕ} (cond b [] ((highest mask + 2) ∷ tops n (lowered mask)))) (ne_eqb mask 0 (λ none. omega arith)) in
          omega (arith, here, tops_few_ones n (lowered mask) (lowered_small mask small), ones_lowered mask some small)
      | inr none ↦
          let here = ap (λ (b : Bool). length {A = ℕ} (cond b [] ((highest mask + 2) ∷ tops n (lowered mask)))) (eq-eqb mask 0 (omega arith)) in
          omega (arith, here)
    ]
