-- The seats so far have the flag if they muck.
use Rattle.std.proofs.Common.{◌≡◌, ◌≤◌, ℕ}
use Rattle.chip_ledger.specs.LiveRow.{flag_of}
use Rattle.replay_core.specs.EndRows.{is_mucked_by}
use Rattle.replay_core.proofs.rows.mucked_row.Given as goal

abbrev pub invariant-loop-index : goal.invariant-loop-index
invariant-loop-index l =
    (l.row.seats ≡ l.live.seats)
    × ((n : ℕ) → 1 ≤ n → n ≤ l.index → flag_of l.row n ≡ is_mucked_by l.live l.shown n)
