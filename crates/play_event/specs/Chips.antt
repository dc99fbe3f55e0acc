-- The chips that a seat has put in, on the street and in the hand, and the chips that it has left.
use Rattle.std.specs.Prelude.{ℕ, ◌+◌, ◌-◌, ◌==◌, min, if◌then◌else◌, List, [], ◌∷◌}
use Rattle.chip_ledger.specs.SeatRow.{amount_of}
use Rattle.play_event.specs.declared.setup.Setup.{Setup}
use Rattle.play_event.specs.Past.{Move, moves_on}

-- the blind of a seat, as far as its stack reaches after the ante
abbrev pub blind_posted : Setup → ℕ → ℕ
blind_posted setup seat =
    min (amount_of setup.blinds seat) (amount_of setup.stacks seat - amount_of setup.antes seat)

-- what a seat posts: its ante and its blind
abbrev pub posted : Setup → ℕ → ℕ
posted setup seat = amount_of setup.antes seat + blind_posted setup seat

-- the total of the chips that a seat's moves add
abbrev pub chips_added : ℕ → List Move → ℕ
chips_added seat [] = 0
chips_added seat (move ∷ before) =
    (if move.seat == seat then move.to - move.from else 0) + chips_added seat before

-- the chips that a seat has put in over the hand, including its ante
abbrev pub chips_put : Setup → List Move → ℕ → ℕ
chips_put setup moves seat = posted setup seat + chips_added seat moves

-- the chips that a seat has left
abbrev pub chips_left : Setup → List Move → ℕ → ℕ
chips_left setup moves seat = amount_of setup.stacks seat - chips_put setup moves seat

-- what a seat starts a street with: its blind on the first, and nothing on another
abbrev pub brought : Setup → ℕ → ℕ → ℕ
brought setup street seat = if street == 1 then blind_posted setup seat else 0

-- the chips that a seat has put in on this street, not counting the ante
abbrev pub street_chips : Setup → List Move → ℕ → ℕ → ℕ
street_chips setup moves street seat =
    brought setup street seat + chips_added seat (moves_on street moves)

-- the chips of a seat on the street once it is all-in
abbrev pub all_in : Setup → List Move → ℕ → ℕ → ℕ
all_in setup moves street seat = street_chips setup moves street seat + chips_left setup moves seat
