-- The values of a line: what each seat won or lost.
use Rattle.std.specs.Prelude.{ℕ, ◌-◌, nat_lt, if◌then◌else◌, List, ◌∷◌, decimal}
use Rattle.chip_ledger.specs.SeatRow.{amount_of}
use Rattle.chip_ledger.specs.declared.seat_row.SeatRow.{SeatRow}
use Rattle.acpc_format.specs.Seats.{for_seats}

-- what a seat ends with minus what it began with, in chips; a loss begins with -
abbrev pub value_text : SeatRow → SeatRow → ℕ → List ℕ
value_text stacks finish seat =
    if nat_lt (amount_of finish seat) (amount_of stacks seat)
    then 45 ∷ decimal (amount_of stacks seat - amount_of finish seat)
    else decimal (amount_of finish seat - amount_of stacks seat)

-- the values of the seats that began with these stacks
unfoldable pub values_text : SeatRow → SeatRow → List ℕ
values_text stacks finish = for_seats (value_text stacks finish) stacks.seats
