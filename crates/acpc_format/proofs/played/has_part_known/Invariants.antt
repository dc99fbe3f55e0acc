use Rattle.std.proofs.Common.{◌≡◌, false}
use Rattle.std.specs.List.{list_any}
use Rattle.chip_ledger.specs.Seat.{seats_of}
use Rattle.hand_canon.specs.TraceRows.{core_said}
use Rattle.acpc_format.specs.PlayFacts.{is_part_known}
use Rattle.acpc_format.proofs.played.has_part_known.Given as goal

-- none of the seats so far
abbrev pub invariant-loop-index : goal.invariant-loop-index
invariant-loop-index l = list_any (is_part_known (core_said l.trace).places) (seats_of l.index) ≡ false
