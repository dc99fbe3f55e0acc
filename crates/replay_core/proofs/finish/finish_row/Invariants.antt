-- The seats so far have what they finish with.
use Rattle.std.proofs.Common.{◌≡◌, ◌+◌, ◌≤◌, ℕ, sum_by}
use Rattle.chip_ledger.specs.PotRow.{shares_in}
use Rattle.chip_ledger.specs.SeatRow.{amount_of}
use Rattle.replay_core.proofs.finish.finish_row.Given as goal

abbrev pub invariant-loop-index : goal.invariant-loop-index
invariant-loop-index l =
    (l.row.seats ≡ l.left.seats)
    × ((n : ℕ) → 1 ≤ n → n ≤ l.index → amount_of l.row n ≡ amount_of l.left n + (amount_of l.returned n + sum_by (λ row. amount_of row n) (shares_in l.shares)))
