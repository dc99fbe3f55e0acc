use Rattle.std.proofs.Common.{◌≡◌, ◌≤◌, ◌+◌, ◌-◌, map}
use Rattle.std.specs.List.{range_with_len}
use Rattle.chip_ledger.specs.Greatest.{greatest}
use Rattle.chip_ledger.specs.SeatRow.{amount_of}
use Rattle.ohh_writing.proofs.setup.find_greatest_ante.Given as goal

-- the greatest ante of the seats so far, from the last one down
abbrev pub invariant-loop-left : goal.invariant-loop-left
invariant-loop-left l = record {
  within : l.left ≤ l.setup.stacks.seats;
  greatest : l.greatest ≡ greatest (map (amount_of l.setup.antes) (range_with_len (l.left + 1) (l.setup.stacks.seats - l.left)));
}

abbrev pub decreases-loop-left : goal.decreases-loop-left
decreases-loop-left l = l.left
