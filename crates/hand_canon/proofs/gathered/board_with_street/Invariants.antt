use Rattle.std.proofs.Common.{◌≡◌, ◌++◌, None, length, map}
use Rattle.card_set.specs.Row.{slots_of}
use Rattle.play_event.specs.CanonScript.{dealt_slots}
use Rattle.hand_canon.specs.TraceRows.{place_said}
use Rattle.hand_canon.proofs.gathered.board_with_street.Given as goal

-- the board's cards so far and those to come are the first ones and those of the street
abbrev pub invariant-loop-rest : goal.invariant-loop-rest
invariant-loop-rest l = slots_of l.longer ++ dealt_slots (map place_said l.rest) None l.street ≡ slots_of l.initial.longer ++ dealt_slots (map place_said l.places) None l.street

abbrev pub decreases-loop-rest : goal.decreases-loop-rest
decreases-loop-rest l = length l.rest
