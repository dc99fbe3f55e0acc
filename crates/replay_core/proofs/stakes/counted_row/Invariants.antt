-- The seats so far have their chips that count.
use Rattle.std.proofs.Common.{◌≡◌, ◌≤◌, ℕ}
use Rattle.chip_ledger.specs.Pots.{counted}
use Rattle.chip_ledger.specs.SeatRow.{amount_of}
use Rattle.replay_core.proofs.stakes.counted_row.Given as goal

abbrev pub invariant-loop-index : goal.invariant-loop-index
invariant-loop-index l =
    (l.row.seats ≡ l.puts.seats)
    × ((n : ℕ) → 1 ≤ n → n ≤ l.index → amount_of l.row n ≡ counted l.setup.dead_antes (amount_of l.puts n) (amount_of l.setup.antes n))
