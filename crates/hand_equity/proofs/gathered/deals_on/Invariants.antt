-- Among the dealt cards that are left, those of the board are the same as among all.
use Rattle.std.proofs.Common.{◌≡◌, None, length, map}
use Rattle.play_event.specs.CanonScript.{dealt_slots}
use Rattle.hand_canon.specs.TraceRows.{place_said}
use Rattle.hand_equity.proofs.gathered.deals_on.Given as goal

abbrev pub invariant-loop-rest : goal.invariant-loop-rest
invariant-loop-rest l = dealt_slots (map place_said l.rest) None l.street ≡ dealt_slots (map place_said l.places) None l.street

abbrev pub decreases-loop-rest : goal.decreases-loop-rest
decreases-loop-rest l = length l.rest
