-- The highest bits are digits of a number.
use Rattle.std.proofs.Common.{◌≡◌, ℕ, zero, suc, ◌+◌, ◌-◌, ◌*◌, ◌^◌, ◌%◌, ◌<◌, ◌≤◌, ◌==◌, Bool, true, false, cond, [], ◌∷◌, refl, sym, ◌∙◌, ap, arith, bit_and, eq-eqb, w16}
use Rattle.std.specs.Int.{bit_not}
use Rattle.std.proofs.lemmas.Bool.{ne_eqb}
use Rattle.hand_order.specs.Digits.{with_digits}
use Rattle.hand_order.specs.Tops.{highest, lowered, tops}
use Rattle.hand_order.proofs.Digits.{with_digits-cons, with_digits-more, with_digits-nil}
use Rattle.card_set.proofs.Numbers.{one_less}

-- nothing more is written
pub digits_none : (number mask need : ℕ) → need ≡ 0 → number ≡ with_digits number (tops need mask)
digits_none number mask need none = sym (with_digits-nil number) ∙ ap (λ (n : ℕ). with_digits number (tops n mask)) (sym none)

pub digits_past : (number mask need : ℕ) → mask ≡ 0 → number ≡ with_digits number (tops need mask)
digits_past number mask zero none = sym (with_digits-nil number)
digits_past number mask (suc n) none =
    sym (with_digits-nil number)
    ∙ sym (ap (λ (b : Bool). with_digits number (cond b [] ((highest mask + 2) ∷ tops n (lowered mask)))) (eq-eqb mask 0 none))

-- one digit more is written, and then the others
pub digits_grown : (number mask need place rest : ℕ) → (need ≡ 0 → ⊥) → (mask ≡ 0 → ⊥) → place ≡ highest mask → rest ≡ bit_and mask (bit_not w16 (1 * 2 ^ place % 2 ^ 16)) → with_digits (number * 16 + place + 2) (tops (need - 1) rest) ≡ with_digits number (tops need mask)
digits_grown number mask zero place rest some_need some_mask is is_rest = absurd (some_need refl)
digits_grown number mask (suc n) place rest some_need some_mask is is_rest =
    let written : number * 16 + place + 2 ≡ number * 16 + (highest mask + 2) = omega (arith, is) in
    ap (λ (k : ℕ). with_digits (number * 16 + place + 2) (tops k rest)) (one_less n)
    ∙ ap (λ (m : ℕ). with_digits (number * 16 + place + 2) (tops n m)) (is_rest ∙ ap (λ (p : ℕ). bit_and mask (bit_not w16 (1 * 2 ^ p % 2 ^ 16))) is)
    ∙ ap (λ (v : ℕ). with_digits v (tops n (lowered mask))) written
    ∙ sym (with_digits-cons number (highest mask + 2) (tops n (lowered mask)))
    ∙ ap (λ (b : Bool). with_digits number (cond b [] ((highest mask + 2) ∷ tops n (lowered mask)))) (sym (ne_eqb mask 0 some_mask))

-- the number so far is not greater
pub digit_fits : (number mask need place rest : ℕ) → (need ≡ 0 → ⊥) → (mask ≡ 0 → ⊥) → place ≡ highest mask → rest ≡ bit_and mask (bit_not w16 (1 * 2 ^ place % 2 ^ 16)) → number * 16 + place + 2 ≤ with_digits number (tops need mask)
digit_fits number mask need place rest some_need some_mask is is_rest =
    omega (arith, digits_grown number mask need place rest some_need some_mask is is_rest, with_digits-more (number * 16 + place + 2) (tops (need - 1) rest))

-- twenty times as much for each digit
abbrev pub widened : ℕ → ℕ → ℕ
widened zero most = most
widened (suc n) most = widened n (most * 20)

widened-le : (n most : ℕ) → most ≤ widened n most
widened-le zero most = omega arith
widened-le (suc n) most = omega (arith, widened-le n (most * 20))

-- each digit is below twenty
digits_small : (n value mask most : ℕ) → value + 2 ≤ most → with_digits value (tops n mask) + 2 ≤ widened n most
digits_small zero value mask most small = omega (arith, with_digits-nil value)
digits_small (suc n) value mask most small =
    by_zero (mask == 0) (digits_small n (value * 16 + (highest mask + 2)) (lowered mask) (most * 20) (omega arith))
  where
    by_zero : (b : Bool) → with_digits (value * 16 + (highest mask + 2)) (tops n (lowered mask)) + 2 ≤ widened n (most * 20) → with_digits value (cond b [] ((highest mask + 2) ∷ tops n (lowered mask))) + 2 ≤ widened n (most * 20)
    by_zero true rest = omega (arith, with_digits-nil value, widened-le n (most * 20))
    by_zero false rest = omega (arith, with_digits-cons value (highest mask + 2) (tops n (lowered mask)), rest)

-- this number of digits makes a number that fits
pub digits_fit : (n value mask most : ℕ) → value + 2 ≤ most → widened n most < 2 ^ 32 → with_digits value (tops n mask) < 2 ^ 32
digits_fit n value mask most small room = omega (arith, digits_small n value mask most small, room)
