use Rattle.std.proofs.Common.{◌≡◌, ◌+◌, ◌-◌, nat_lt}
use Rattle.std.specs.List.{list_any, range_with_len}
use Rattle.chip_ledger.specs.Seat.{seats_of}
use Rattle.chip_ledger.specs.SeatRow.{amount_of}
use Rattle.ohh_rounds.proofs.antes_and_blinds.has_some.Given as goal

-- the seats that are left decide
abbrev pub invariant-loop-index : goal.invariant-loop-index
invariant-loop-index l = list_any (λ seat. nat_lt 0 (amount_of l.row seat)) (range_with_len (l.index + 1) (l.row.seats - l.index)) ≡ list_any (λ seat. nat_lt 0 (amount_of l.row seat)) (seats_of l.row.seats)
