-- The chips so far are those of the seats so far.
use Rattle.std.proofs.Common.{◌≡◌, ◌*◌, ◌≤◌}
use Rattle.chip_ledger.specs.declared.live_row.LiveRow.{LiveRow}
use Rattle.chip_ledger.specs.declared.seat_row.TheConstants.{MOST_AMOUNT}
use Rattle.chip_ledger.specs.Pots.{between}
use Rattle.chip_ledger.proofs.Stakes.{stakes_upto}
use Rattle.side_pots.proofs.layers.chips_between.Given as goal

abbrev pub invariant-loop-index : goal.invariant-loop-index
invariant-loop-index l =
    ((live : LiveRow) → l.chips ≡ between (stakes_upto l.left live l.index) l.below l.level)
    × (l.chips ≤ l.index * MOST_AMOUNT)
