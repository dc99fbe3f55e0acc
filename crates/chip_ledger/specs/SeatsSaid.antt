-- Seats as numbers, and the default name of a seat.
use Rattle.std.specs.Prelude.{ℕ, List, ◌++◌, codes, Option}
use Rattle.std.specs.Fmt.{decimal}
use Rattle.std.specs.Option.{option_map}
use Rattle.chip_ledger.specs.declared.numbers.Seat.{Seat}

-- the number of a seat, if there is one
abbrev pub seat_said : Option Seat → Option ℕ
seat_said seat = option_map (λ (s : Seat). s.number) seat

-- the default name of a seat: p and the seat's number
abbrev pub default_name : ℕ → List ℕ
default_name seat = codes "p" ++ decimal seat
