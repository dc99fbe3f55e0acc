-- No seat so far is flagged.
use Rattle.std.proofs.Common.{◌≡◌, [], filter}
use Rattle.chip_ledger.specs.LiveRow.{flag_of}
use Rattle.chip_ledger.specs.Seat.{seats_of}
use Rattle.chip_ledger.proofs.live_row.LiveRow.any.Given as goal

abbrev pub invariant-loop-index : goal.invariant-loop-index
invariant-loop-index l = filter (flag_of l.self) (seats_of l.index) ≡ []
