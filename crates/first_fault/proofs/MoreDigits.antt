-- More digits do not say a smaller number, and a number that is too great stays too great.
use Rattle.std.proofs.Common.{◌≡◌, ℕ, ◌+◌, ◌*◌, ◌<◌, true, List, length, drop, get_or, None, sym, ap, ◌∙◌, refl, arith}
use Rattle.std.specs.Char.{digit_value, is_digit}
use Rattle.std.specs.List.{list_all}
use Rattle.std.specs.Str.Parse.{digits_value, digits_value_after}
use Rattle.std.proofs.lemmas.Bool.{lt-leb, and_parts}
use Rattle.std.proofs.lemmas.List.{drop_more}
use Rattle.card_set.proofs.Numbers.{more_digits}
use Rattle.first_fault.specs.Digits.{number_of}

-- digits whose first ones already say too much do not say a number within the greatest
pub too_much : (digits : List ℕ) (index number most : ℕ) → digits_value_after 10 number (drop index digits) ≡ digits_value 10 digits → index < length digits → most < number * 10 + digit_value (get_or digits index 0) → number_of most digits ≡ None
unfolding number_of
too_much digits index number most so_far within over =
    let more : digits_value_after 10 (number * 10 + digit_value (get_or digits index 0)) (drop (index + 1) digits) ≡ digits_value 10 digits = sym (ap (digits_value_after 10 number) (drop_more digits index 0 within)) ∙ so_far in
    let much : most < digits_value 10 digits = omega (arith, over, more, more_digits (number * 10 + digit_value (get_or digits index 0)) (drop (index + 1) digits)) in
    rw (lt-leb (digits_value 10 digits) most much) refl

-- if the signs from an index on are digits, the first of them is one
pub digit_at : (digits : List ℕ) (index : ℕ) → index < length digits → list_all (λ sign. is_digit sign 10) (drop index digits) ≡ true → is_digit (get_or digits index 0) 10 ≡ true
digit_at digits index within all =
    (and_parts (is_digit (get_or digits index 0) 10) (list_all (λ sign. is_digit sign 10) (drop (index + 1) digits)) (sym (ap (list_all (λ sign. is_digit sign 10)) (drop_more digits index 0 within)) ∙ all)).0
