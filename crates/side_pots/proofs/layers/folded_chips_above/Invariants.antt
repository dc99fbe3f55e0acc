-- The chips so far are those of the folded seats so far.
use Rattle.std.proofs.Common.{◌≡◌, ◌*◌, ◌≤◌}
use Rattle.chip_ledger.specs.declared.seat_row.TheConstants.{MOST_AMOUNT}
use Rattle.chip_ledger.specs.Pots.{folded_above}
use Rattle.chip_ledger.proofs.Stakes.{stakes_upto}
use Rattle.side_pots.proofs.layers.folded_chips_above.Given as goal

abbrev pub invariant-loop-index : goal.invariant-loop-index
invariant-loop-index l =
    (l.chips ≡ folded_above (stakes_upto l.stakes.chips.now l.stakes.live.now l.index) l.level) × (l.chips ≤ l.index * MOST_AMOUNT)
