-- What a row of flags says of its seats.
use Rattle.std.specs.Prelude.{ℕ, ◌-◌, Bool, false, List, filter, slice_index_or}
use Rattle.chip_ledger.specs.declared.live_row.LiveRow.{LiveRow}
use Rattle.chip_ledger.specs.Seat.{seats_of}

-- the flag of seat number n
abbrev pub flag_of : LiveRow → ℕ → Bool
flag_of row n = slice_index_or row.flags (n - 1) false

-- the seats of the row whose flag is true
abbrev pub flagged : LiveRow → List ℕ
flagged row = filter (flag_of row) (seats_of row.seats)
