-- Numbers that are written with the same number of digits compare as their lists of digits do.
use Rattle.std.proofs.Common.{◌≡◌, ℕ, ◌+◌, ◌*◌, ◌^◌, ◌<◌, ◌≤◌, List, [], ◌∷◌, ◌++◌, length, ◌⊎◌, inl, inr, ◌↔◌, refl, ap, arith}
use Rattle.std.proofs.lemmas.Bool.{cases_lt}
use Rattle.std.proofs.lemmas.List.Sums.{fold-append}
use Rattle.card_set.specs.Classes.{IsLower}
use Rattle.hand_order.specs.Digits.{with_digits, class_above}
pub use Rattle.hand_order.specs.Digits.{AreDigits}

pub with_digits-append : (value : ℕ) (xs ys : List ℕ) → with_digits value (xs ++ ys) ≡ with_digits (with_digits value xs) ys
unfolding with_digits
with_digits-append value xs ys = fold-append (λ sofar digit. sofar * 16 + digit) value xs ys

pub with_digits-cons : (value x : ℕ) (xs : List ℕ) → with_digits value (x ∷ xs) ≡ with_digits (value * 16 + x) xs
unfolding with_digits
with_digits-cons value x xs = refl

pub with_digits-nil : (value : ℕ) → with_digits value [] ≡ value
unfolding with_digits
with_digits-nil value = refl

-- more digits do not make a smaller number
pub with_digits-more : (value : ℕ) (xs : List ℕ) → value ≤ with_digits value xs
with_digits-more value [] = omega (arith, with_digits-nil value)
with_digits-more value (x ∷ xs) = omega (arith, with_digits-cons value x xs, with_digits-more (value * 16 + x) xs)

-- a smaller number stays smaller if the same number of digits follow
after_less : (low high : ℕ) (xs ys : List ℕ) → low < high → length xs ≡ length ys → AreDigits xs → AreDigits ys → with_digits low xs < with_digits high ys
after_less low high [] [] less same digits others = omega (arith, with_digits-nil low, with_digits-nil high)
after_less low high [] (y ∷ ys) less same digits others = absurd (omega arith)
after_less low high (x ∷ xs) [] less same digits others = absurd (omega arith)
after_less low high (x ∷ xs) (y ∷ ys) less same digits others =
    let rest = after_less (low * 16 + x) (high * 16 + y) xs ys (omega arith) (omega arith) digits.1 others.1 in
    omega (arith, with_digits-cons low x xs, with_digits-cons high y ys)

-- after the same number the digits decide
pub same_before : (value : ℕ) (xs ys : List ℕ) → length xs ≡ length ys → AreDigits xs → AreDigits ys → (with_digits value xs < with_digits value ys) ↔ IsLower xs ys
same_before value [] [] same digits others = (λ less. absurd (omega arith), λ lower. absurd lower)
same_before value [] (y ∷ ys) same digits others = absurd (omega arith)
same_before value (x ∷ xs) [] same digits others = absurd (omega arith)
same_before value (x ∷ xs) (y ∷ ys) same digits others =
    let left = with_digits-cons value x xs in
    let right = with_digits-cons value y ys in (
      λ less. elim (cases_lt x y) [
        | inl lower ↦ inl lower
        | inr above ↦ elim (cases_lt y x) [
          | inl higher ↦ absurd (omega (arith, after_less (value * 16 + y) (value * 16 + x) ys xs (omega arith) (omega arith) others.1 digits.1))
          | inr below ↦
              let equal : x ≡ y = omega arith in
              let moved = ap (λ (n : ℕ). with_digits (value * 16 + n) ys) equal in
              inr (equal, (same_before (value * 16 + x) xs ys (omega arith) digits.1 others.1).0 (omega arith))
        ]
      ],
      λ lower. elim lower [
        | inl first ↦ omega (arith, after_less (value * 16 + x) (value * 16 + y) xs ys (omega arith) (omega arith) digits.1 others.1)
        | inr rest ↦
            let moved = ap (λ (n : ℕ). with_digits (value * 16 + n) ys) rest.0 in
            let later = (same_before (value * 16 + x) xs ys (omega arith) digits.1 others.1).1 rest.1 in
            omega arith
      ],
    )

-- five digits make a number below the sixth place
pub number_below : (xs : List ℕ) → length xs ≤ 5 → AreDigits xs → with_digits 0 xs < 16 ^ 5
unfolding with_digits
number_below [] few digits = omega arith
number_below (a ∷ []) few digits = omega (arith, digits.0)
number_below (a ∷ b ∷ []) few digits = omega (arith, digits.0, digits.1.0)
number_below (a ∷ b ∷ c ∷ []) few digits = omega (arith, digits.0, digits.1.0, digits.1.1.0)
number_below (a ∷ b ∷ c ∷ d ∷ []) few digits = omega (arith, digits.0, digits.1.0, digits.1.1.0, digits.1.1.1.0)
number_below (a ∷ b ∷ c ∷ d ∷ e ∷ []) few digits = omega (arith, digits.0, digits.1.0, digits.1.1.0, digits.1.1.1.0, digits.1.1.1.1.0)
number_below (a ∷ b ∷ c ∷ d ∷ e ∷ f ∷ rest) few digits = absurd (omega arith)

-- a number with a class above its digits is smaller if and only if the class is, or the class is
-- the same and the digits are lower
pub class_first : (class other : ℕ) (xs ys : List ℕ) → length xs ≤ 5 → length ys ≤ 5 → AreDigits xs → AreDigits ys → (class ≡ other → length xs ≡ length ys) → (class_above class xs < class_above other ys) ↔ ((class < other) ⊎ ((class ≡ other) × IsLower xs ys))
class_first class other xs ys few few_others digits others same =
    let below = number_below xs few digits in
    let below_other = number_below ys few_others others in (
      λ less. elim (cases_lt class other) [
        | inl lower ↦ inl lower
        | inr above ↦
            let equal : class ≡ other = omega arith in
            inr (equal, (same_before 0 xs ys (same equal) digits others).0 (omega arith))
      ],
      λ below_it. elim below_it [
        | inl lower ↦ omega arith
        | inr rest ↦
            let equal = rest.0 in
            let lower = (same_before 0 xs ys (same rest.0) digits others).1 rest.1 in
            omega arith
      ],
    )
