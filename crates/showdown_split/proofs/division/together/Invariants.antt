-- The seats so far have both amounts.
use Rattle.std.proofs.Common.{◌≡◌, ◌+◌, ◌≤◌, ℕ}
use Rattle.chip_ledger.specs.SeatRow.{amount_of}
use Rattle.showdown_split.proofs.division.together.Given as goal

abbrev pub invariant-loop-index : goal.invariant-loop-index
invariant-loop-index l =
    (l.row.seats ≡ l.first.seats)
    × ((n : ℕ) → 1 ≤ n → n ≤ l.index → amount_of l.row n ≡ amount_of l.first n + amount_of l.second n)
