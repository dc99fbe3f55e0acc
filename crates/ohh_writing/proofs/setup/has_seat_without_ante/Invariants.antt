use Rattle.std.proofs.Common.{◌≡◌, ◌+◌, ◌-◌}
use Rattle.std.specs.List.{list_any, range_with_len}
use Rattle.chip_ledger.specs.Seat.{seats_of}
use Rattle.ohh_writing.specs.Spelled.{has_no_ante}
use Rattle.ohh_writing.proofs.setup.has_seat_without_ante.Given as goal

-- the seats that are left decide
abbrev pub invariant-loop-index : goal.invariant-loop-index
invariant-loop-index l = list_any (has_no_ante l.setup) (range_with_len (l.index + 1) (l.setup.stacks.seats - l.index)) ≡ list_any (has_no_ante l.setup) (seats_of l.setup.stacks.seats)
