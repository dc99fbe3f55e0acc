-- What a row of amounts says of its seats.
use Rattle.std.specs.Prelude.{ℕ, ◌-◌, slice_index, sum_by, List, take}
use Rattle.chip_ledger.specs.declared.seat_row.SeatRow.{SeatRow}
use Rattle.chip_ledger.specs.Seat.{seats_of}

-- the amount of seat number n
abbrev pub amount_of : SeatRow → ℕ → ℕ
amount_of row n = slice_index row.amounts (n - 1)

-- the amounts of all seats of the row added up
abbrev pub total_of : SeatRow → ℕ
total_of row = sum_by (amount_of row) (seats_of row.seats)

-- the amounts of a row, seat 1 first
abbrev pub amounts_in : SeatRow → List ℕ
amounts_in row = take row.seats row.amounts
