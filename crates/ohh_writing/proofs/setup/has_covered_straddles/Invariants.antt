use Rattle.std.proofs.Common.{◌≡◌, ◌+◌, ◌-◌}
use Rattle.std.specs.List.{list_all, range_with_len}
use Rattle.chip_ledger.specs.Seat.{seats_of}
use Rattle.ohh_writing.specs.Spelled.{is_covered_straddle}
use Rattle.ohh_writing.proofs.setup.has_covered_straddles.Given as goal

-- the seats that are left decide
abbrev pub invariant-loop-index : goal.invariant-loop-index
invariant-loop-index l = list_all (is_covered_straddle l.setup) (range_with_len (l.index + 1) (l.setup.stacks.seats - l.index)) ≡ list_all (is_covered_straddle l.setup) (seats_of l.setup.stacks.seats)
