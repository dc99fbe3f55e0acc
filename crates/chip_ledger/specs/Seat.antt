-- The seats of a hand are numbered from 1.
use Rattle.std.specs.Prelude.{ℕ, List, ◌≤◌, if◌then◌else◌, ◌==◌}
use Rattle.std.specs.List.{range_with_len}

-- the seats of a hand with `seats` seats: the numbers from 1 on
abbrev pub seats_of : ℕ → List ℕ
seats_of seats = range_with_len 1 seats

-- a number is that of a seat of a hand with `seats` seats
pub record IsSeatOf (seats seat : ℕ) : Type 0 where
  -- it is not below the first
  pub first : 1 ≤ seat
  -- and not above the last
  pub last : seat ≤ seats

-- the seat of the small blind in a hand with `seats` seats and a button: the first or, heads-up,
-- the second
abbrev pub small_blind_of : ℕ → ℕ
small_blind_of seats = if seats == 2 then 2 else 1

-- the seat of the big blind: the other of the first two
abbrev pub big_blind_of : ℕ → ℕ
big_blind_of seats = if seats == 2 then 1 else 2
