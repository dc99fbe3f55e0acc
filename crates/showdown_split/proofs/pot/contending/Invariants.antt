-- The seats so far are marked if they may win the pot and are shown.
use Rattle.std.proofs.Common.{◌≡◌, ◌≤◌, ◌&&◌, ℕ}
use Rattle.chip_ledger.specs.LiveRow.{flag_of}
use Rattle.showdown_split.proofs.pot.contending.Given as goal

abbrev pub invariant-loop-index : goal.invariant-loop-index
invariant-loop-index l =
    (l.row.seats ≡ l.shown.seats)
    × ((n : ℕ) → 1 ≤ n → n ≤ l.index → flag_of l.row n ≡ (flag_of l.pot.eligible n && flag_of l.shown n))
