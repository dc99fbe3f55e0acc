-- Which amounts may be a stack or the size of a bet.
use Rattle.std.specs.Prelude.{ℕ, Bool, nat_le, ◌&&◌}
use Rattle.chip_ledger.specs.declared.numbers.TheConstants.{MOST_CHIPS}

-- an amount of chips is allowed as a stack or bet size
abbrev pub is_size : ℕ → Bool
is_size chips = nat_le 1 chips && nat_le chips MOST_CHIPS
