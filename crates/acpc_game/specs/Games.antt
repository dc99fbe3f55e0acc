-- Games that a game file can say.
use Rattle.std.specs.Prelude.{ℕ, ◌==◌, Bool, true, false, nat_lt, nat_le, ◌&&◌, ◌||◌, List}
use Rattle.std.specs.List.{list_all}
use Rattle.chip_ledger.specs.declared.numbers.TheConstants.{MOST_CHIPS}
use Rattle.chip_ledger.specs.Sizes.{is_size}

-- each amount of chips is within the limit
abbrev pub are_chips : List ℕ → Bool
are_chips amounts = list_all (λ chips. nat_le chips MOST_CHIPS) amounts

-- The raise sizes fit the greatest blind: in no-limit there is a blind and no raise size; in limit
-- there are two raise sizes, and the blind, if there is one, is not less than the first of them.
abbrev pub has_fitting_sizes : Bool → ℕ → ℕ → ℕ → Bool
has_fitting_sizes true blind small big = nat_lt 0 blind && (small == 0 && big == 0)
has_fitting_sizes false blind small big =
    is_size small && (is_size big && (blind == 0 || nat_le small blind))
