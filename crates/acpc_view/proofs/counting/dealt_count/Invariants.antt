-- The cards so far, and those of the others, are all.
use Rattle.std.proofs.Common.{◌≡◌, ◌≤◌, ◌+◌, drop, length, map}
use Rattle.play_event.specs.CanonScript.{dealt_slots}
use Rattle.hand_canon.specs.TraceRows.{place_said}
use Rattle.play_event.specs.Said.{seat_named}
use Rattle.acpc_view.proofs.counting.dealt_count.Given as goal

abbrev pub invariant-loop-place : goal.invariant-loop-place
invariant-loop-place l = record {
  counted : l.count + length (dealt_slots (map place_said (drop l.place-index l.places)) (seat_named l.owner) l.street) ≡ length (dealt_slots (map place_said l.places) (seat_named l.owner) l.street);
  few : l.count ≤ l.place-index;
}
