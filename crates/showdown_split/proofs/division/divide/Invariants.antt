-- The seats so far have their parts.
use Rattle.std.proofs.Common.{◌≡◌, ◌≤◌, ℕ}
use Rattle.chip_ledger.specs.LiveRow.{flag_of}
use Rattle.chip_ledger.specs.SeatRow.{amount_of}
use Rattle.variant_table.specs.Division.{divided}
use Rattle.showdown_split.proofs.division.divide.Given as goal

abbrev pub invariant-loop-index : goal.invariant-loop-index
invariant-loop-index l =
    (l.row.seats ≡ l.winners.seats)
    × ((n : ℕ) → 1 ≤ n → n ≤ l.index → amount_of l.row n ≡ divided l.winners.seats (flag_of l.winners) l.chips n)
    × ((n : ℕ) → 1 ≤ n → n ≤ l.index → amount_of l.row n ≤ l.chips)
