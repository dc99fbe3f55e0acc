use Rattle.std.proofs.Common.{◌≡◌, drop, map}
use Rattle.std.specs.List.{list_any}
use Rattle.card_set.specs.Known.{hides_card}
use Rattle.play_event.specs.CanonScript.{dealt_slots}
use Rattle.play_event.specs.Said.{seat_named}
use Rattle.hand_canon.specs.TraceRows.{place_said}
use Rattle.acpc_format.proofs.cards.has_unknown.Given as goal

-- the places that are left decide
abbrev pub invariant-loop-place : goal.invariant-loop-place
invariant-loop-place l =
    list_any hides_card (dealt_slots (map place_said (drop l.place-index l.places)) (seat_named l.owner) l.street)
    ≡ list_any hides_card (dealt_slots (map place_said l.places) (seat_named l.owner) l.street)
