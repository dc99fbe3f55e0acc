-- The seats so far are marked if they contend and have the best score.
use Rattle.std.proofs.Common.{◌≡◌, ◌≤◌, ◌&&◌, ℕ}
use Rattle.chip_ledger.specs.LiveRow.{flag_of}
use Rattle.showdown_split.specs.Scores.{points_of}
use Rattle.showdown_split.specs.SeatPoints.{best_to, is_same}
use Rattle.showdown_split.proofs.winners.winners.Given as goal

abbrev pub invariant-loop-index : goal.invariant-loop-index
invariant-loop-index l =
    (l.row.seats ≡ l.contending.seats)
    × ((n : ℕ) → 1 ≤ n → n ≤ l.index → flag_of l.row n
    ≡ (flag_of l.contending n && is_same (points_of l.scores n) (best_to (flag_of l.contending) (points_of l.scores) l.contending.seats)))
