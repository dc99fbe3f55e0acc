-- The pseudo-random numbers of made hands: a linear congruential generator of 64 bits.
use Rattle.std.specs.Prelude.{ℕ, zero, suc, ◌+◌, ◌*◌, ◌/◌, ◌%◌, ◌^◌}

-- the number after this one
unfoldable pub next_number : ℕ → ℕ
next_number number = (number * 6364136223846793005 + 1442695040888963407) % 2 ^ 64

-- the number after this number of draws
abbrev pub number_after : ℕ → ℕ → ℕ
number_after zero number = number
number_after (suc count) number = number_after count (next_number number)

-- the choice that a number makes among a count, from 0 upward: its upper 31 bits, modulo the count
abbrev pub choice_among : ℕ → ℕ → ℕ
choice_among count number = (number / 2 ^ 33) % count
