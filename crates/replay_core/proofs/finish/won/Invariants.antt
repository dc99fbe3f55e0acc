-- The shares so far are summed.
use Rattle.std.proofs.Common.{◌≡◌, ◌≤◌, ◌*◌, sum_by, take}
use Rattle.chip_ledger.specs.PotRow.{shares_in}
use Rattle.chip_ledger.specs.SeatRow.{amount_of}
use Rattle.chip_ledger.specs.declared.seat_row.TheConstants.{MOST_AMOUNT}
use Rattle.replay_core.proofs.finish.won.Given as goal

abbrev pub invariant-loop-row : goal.invariant-loop-row
invariant-loop-row l =
    (l.all ≡ sum_by (λ row. amount_of row l.seat.number) (take l.row-index (shares_in l.shares)))
    × (l.all ≤ l.row-index * MOST_AMOUNT)
