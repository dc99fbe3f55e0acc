use Rattle.std.proofs.Common.{◌≡◌, ◌≤◌, ◌++◌, ℕ, Some, length, map}
use Rattle.play_event.specs.SeatSlots.{slots_of_hand}
use Rattle.play_event.specs.CanonScript.{dealt_slots}
use Rattle.hand_canon.specs.TraceRows.{place_said}
use Rattle.hand_canon.proofs.gathered.dealt_to_seats.Given as goal

-- each seat's cards so far and those to come are all that it was dealt
abbrev pub invariant-loop-rest : goal.invariant-loop-rest
invariant-loop-rest l =
    (l.dealt.seats ≡ 10)
    × ((n : ℕ) → 1 ≤ n → slots_of_hand l.dealt n ++ dealt_slots (map place_said l.rest) (Some n) l.street ≡ dealt_slots (map place_said l.places) (Some n) l.street)

abbrev pub decreases-loop-rest : goal.decreases-loop-rest
decreases-loop-rest l = length l.rest
