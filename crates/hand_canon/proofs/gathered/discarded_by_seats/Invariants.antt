use Rattle.std.proofs.Common.{◌≡◌, ◌≤◌, ◌++◌, ℕ, length, map}
use Rattle.play_event.specs.SeatSlots.{slots_of_hand}
use Rattle.play_event.specs.CanonScript.{discarded_slots}
use Rattle.hand_canon.specs.TraceRows.{place_said}
use Rattle.hand_canon.proofs.gathered.discarded_by_seats.Given as goal

-- each seat's discards so far and those to come are all that it discarded
abbrev pub invariant-loop-rest : goal.invariant-loop-rest
invariant-loop-rest l =
    (l.discarded.seats ≡ 10)
    × ((n : ℕ) → 1 ≤ n → slots_of_hand l.discarded n ++ discarded_slots (map place_said l.rest) n l.street ≡ discarded_slots (map place_said l.places) n l.street)

abbrev pub decreases-loop-rest : goal.decreases-loop-rest
decreases-loop-rest l = length l.rest
