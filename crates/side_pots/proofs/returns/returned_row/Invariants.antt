-- The seats so far have what they get back.
use Rattle.std.proofs.Common.{◌≡◌, ◌≤◌, ℕ}
use Rattle.chip_ledger.specs.SeatRow.{amount_of}
use Rattle.chip_ledger.specs.PotRow.{stake_of, stakes_of}
use Rattle.chip_ledger.specs.Pots.{returned}
use Rattle.side_pots.proofs.returns.returned_row.Given as goal

abbrev pub invariant-loop-index : goal.invariant-loop-index
invariant-loop-index l =
    (l.row.seats ≡ l.stakes.chips.now.seats)
    × ((n : ℕ) → 1 ≤ n → n ≤ l.index → amount_of l.row n ≡ returned (stakes_of l.stakes.chips.now l.stakes.live.now) (stake_of l.stakes.chips.now l.stakes.live.now n))
