-- Numbers of actions, lines and bytes as they are kept and reported: in 32 bits.
use Rattle.std.specs.Prelude.{min, ℕ}

-- a number, or the greatest number of 32 bits if it is above that
abbrev pub saturated : ℕ → ℕ
saturated number = min number 4294967295
