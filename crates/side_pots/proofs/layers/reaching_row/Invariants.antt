-- The seats so far are marked if they are live and reach the level.
use Rattle.std.proofs.Common.{◌≡◌, ◌≤◌, ◌&&◌, ℕ, nat_le}
use Rattle.chip_ledger.specs.LiveRow.{flag_of}
use Rattle.chip_ledger.specs.SeatRow.{amount_of}
use Rattle.side_pots.proofs.layers.reaching_row.Given as goal

abbrev pub invariant-loop-index : goal.invariant-loop-index
invariant-loop-index l =
    (l.row.seats ≡ l.stakes.chips.now.seats)
    × ((n : ℕ) → 1 ≤ n → n ≤ l.index → flag_of l.row n ≡ (flag_of l.stakes.live.now n && nat_le l.level (amount_of l.stakes.chips.now n)))
