-- The digits of a number without leading zeros.
use Rattle.std.specs.Prelude.{ℕ, ◌==◌, List, drop}
use Rattle.std.specs.List.{prefix_len}

-- the digits of a number, without leading zeros
abbrev pub number_digits : List ℕ → List ℕ
number_digits key = drop (prefix_len (λ digit. digit == 48) key) key
