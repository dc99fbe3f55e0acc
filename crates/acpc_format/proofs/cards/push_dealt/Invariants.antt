use Rattle.std.proofs.Common.{◌≡◌, ◌++◌, length, map}
use Rattle.card_set.specs.Spelling.{spelling}
use Rattle.play_event.specs.CanonScript.{dealt_slots}
use Rattle.play_event.specs.Said.{seat_named}
use Rattle.hand_canon.specs.TraceRows.{place_said}
use Rattle.acpc_format.proofs.cards.push_dealt.Given as goal

-- what is written and the places to come are all cards of the owner
abbrev pub invariant-loop-rest : goal.invariant-loop-rest
invariant-loop-rest l =
    l.out.items ++ spelling (dealt_slots (map place_said l.rest) (seat_named l.owner) l.street)
    ≡ l.fn.out.items ++ spelling (dealt_slots (map place_said l.places) (seat_named l.owner) l.street)

abbrev pub decreases-loop-rest : goal.decreases-loop-rest
decreases-loop-rest l = length l.rest
