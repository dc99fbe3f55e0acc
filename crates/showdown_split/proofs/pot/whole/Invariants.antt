-- The seats so far have the chips if they may win the pot.
use Rattle.std.proofs.Common.{◌≡◌, ◌≤◌, ℕ, if◌then◌else◌}
use Rattle.chip_ledger.specs.LiveRow.{flag_of}
use Rattle.chip_ledger.specs.SeatRow.{amount_of}
use Rattle.showdown_split.proofs.pot.whole.Given as goal

abbrev pub invariant-loop-index : goal.invariant-loop-index
invariant-loop-index l =
    (l.row.seats ≡ l.pot.eligible.seats)
    × ((n : ℕ) → 1 ≤ n → n ≤ l.index → amount_of l.row n ≡ (if flag_of l.pot.eligible n then l.pot.chips else 0))
