use Rattle.std.proofs.Common.{◌≡◌, ◌+◌, ◌-◌, find, map}
use Rattle.std.specs.List.{range_with_len}
use Rattle.chip_ledger.specs.Seat.{seats_of}
use Rattle.hand_canon.specs.Agreement.{value_compared, is_different}
use Rattle.hand_canon.proofs.agreement.first_value.Given as goal

-- the first difference is one of the seats to come
abbrev pub invariant-loop-index : goal.invariant-loop-index
invariant-loop-index l =
    find is_different (map (value_compared l.trace l.row) (range_with_len (l.index + 1) (l.trace.setup.stacks.seats - l.index)))
    ≡ find is_different (map (value_compared l.trace l.row) (seats_of l.trace.setup.stacks.seats))
