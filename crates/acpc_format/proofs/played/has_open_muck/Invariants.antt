use Rattle.std.proofs.Common.{◌≡◌, false}
use Rattle.std.specs.List.{list_any}
use Rattle.chip_ledger.specs.Seat.{seats_of}
use Rattle.hand_canon.specs.TraceRows.{core_said}
use Rattle.acpc_format.specs.PlayFacts.{is_open_muck}
use Rattle.acpc_format.proofs.played.has_open_muck.Given as goal

-- none of the seats so far
abbrev pub invariant-loop-index : goal.invariant-loop-index
invariant-loop-index l = list_any (is_open_muck (core_said l.trace).places l.trace.mucked) (seats_of l.index) ≡ false
