-- Lemmas on decimal digits, and on the number that they say.
use Rattle.std.proofs.Common.{List, arith, decimal, refl, replicate, suc, true, zero, ℕ, ◌%◌, ◌*◌, ◌++◌, ◌+◌, ◌<◌, ◌^◌, ◌∷◌, ◌≡◌, ◌≤◌, []}
use Rattle.std.proofs.lemmas.Bool.{and_parts, lt-ltb, ltb-true}
use Rattle.std.proofs.lemmas.Fmt.{decimal_is_IsNumeral}
use Rattle.std.proofs.lemmas.Str.Parse.{IsNumeralModel}
use Rattle.std.specs.Char.{digit_value, is_digit}
use Rattle.std.specs.List.{list_all}
use Rattle.std.specs.Str.Parse.{AllDigits, digits_value, digits_value_after}

pub digit_is : (x : ℕ) → x < 10 → digit_value (48 + x) ≡ x
digit_is x small = grind (arith, small)

pub digit_good : (n : ℕ) → is_digit (48 + n % 10) 10 ≡ true
digit_good n = let small : n % 10 < 10 = omega arith in lt-ltb (digit_value (48 + n % 10)) 10 (omega (arith, digit_is (n % 10) small))

pub value_more : (before : ℕ) (digits : List ℕ) (digit : ℕ) → digits_value_after 10 before (digits ++ digit ∷ []) ≡ digits_value_after 10 before digits * 10 + digit_value digit
value_more before [] digit = omega arith
value_more before (first ∷ digits) digit = value_more (before * 10 + digit_value first) digits digit

-- characters that all pass the test for digits are digits
pub all_digits : (digits : List ℕ) → list_all (λ sign. is_digit sign 10) digits ≡ true → AllDigits 10 digits
all_digits [] all = tt
all_digits (digit ∷ digits) all =
    let parts = and_parts (is_digit digit 10) (list_all (λ sign. is_digit sign 10) digits) all in
    (ltb-true (digit_value digit) 10 parts.0, all_digits digits parts.1)

pub own_digits : IsNumeralModel (AllDigits 10) (digits_value 10)
own_digits = record { to = λ digits all. all; from = λ digits all. all; same = λ digits all. refl }

pub of_digits : (digits : List ℕ) → AllDigits 10 digits → list_all (λ sign. is_digit sign 10) digits ≡ true
of_digits [] all = refl
of_digits (digit ∷ digits) all = rw (lt-ltb (digit_value digit) 10 all.0, of_digits digits all.1) refl

pub digit_least : (sign : ℕ) → is_digit sign 10 ≡ true → 48 ≤ sign
digit_least sign is = grind (arith, is)

pub digit_most : (sign : ℕ) → is_digit sign 10 ≡ true → sign ≤ 57
digit_most sign is = grind (arith, is)

-- zeros in front say nothing
pub zeros_say : (k : ℕ) (xs : List ℕ) → digits_value_after 10 0 (replicate k 48 ++ xs) ≡ digits_value_after 10 0 xs
zeros_say zero xs = refl
zeros_say (suc k) xs = zeros_say k xs

pub number_said : (n : ℕ) → n < 2 ^ 64 → digits_value 10 (decimal n) ≡ n
number_said n small = (decimal_is_IsNumeral n small).1
