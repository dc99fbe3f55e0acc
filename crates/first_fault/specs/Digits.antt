-- Decimal digits and the number that they say; leading zeros are allowed.
use Rattle.std.specs.Prelude.{ℕ, Bool, ◌&&◌, nat_lt, nat_le, if◌then◌else◌, List, length, Option, Some, None}
use Rattle.std.specs.List.{list_all}
use Rattle.std.specs.Char.{is_digit}
use Rattle.std.specs.Str.Parse.{digits_value}

-- one or more decimal digits
unfoldable pub are_digits : List ℕ → Bool
are_digits text = nat_lt 0 (length text) && list_all (λ sign. is_digit sign 10) text

-- the number that digits say, if it is at most `most`
unfoldable pub number_of : ℕ → List ℕ → Option ℕ
number_of most digits =
    if nat_le (digits_value 10 digits) most then Some (digits_value 10 digits) else None
