-- The seats so far are counted.
use Rattle.std.proofs.Common.{◌≡◌, ◌≤◌, count_by}
use Rattle.chip_ledger.specs.LiveRow.{flag_of}
use Rattle.chip_ledger.specs.Seat.{seats_of}
use Rattle.replay_core.proofs.rows.count_flags.Given as goal

abbrev pub invariant-loop-index : goal.invariant-loop-index
invariant-loop-index l = (l.count ≡ count_by (flag_of l.row) (seats_of l.index)) × (l.count ≤ l.index)
