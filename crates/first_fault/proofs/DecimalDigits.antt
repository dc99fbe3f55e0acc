-- A number is written as digits.
use Rattle.std.proofs.Common.{◌≡◌, ℕ, ◌<◌, ◌^◌, true, length, decimal, refl}
use Rattle.std.proofs.lemmas.Bool.{lt-ltb}
use Rattle.std.proofs.lemmas.Fmt.{decimal_is_IsNumeral}
use Rattle.card_set.proofs.Digits.{of_digits}
use Rattle.first_fault.specs.Digits.{are_digits}

-- a number in decimal digits
pub decimal_digits : (n : ℕ) → n < 2 ^ 64 → are_digits (decimal n) ≡ true
unfolding are_digits
decimal_digits n small =
    let numeral = decimal_is_IsNumeral n small in
    rw (lt-ltb 0 (length (decimal n)) numeral.0.0, of_digits (decimal n) numeral.0.1) refl
