use Rattle.std.proofs.Common.{◌≡◌, ◌++◌, length, map, option_map}
use Rattle.card_set.specs.Row.{slots_of}
use Rattle.play_event.specs.CanonScript.{dealt_slots}
use Rattle.hand_canon.specs.TraceRows.{place_said}
use Rattle.ohh_writing.proofs.cards.dealt_cards.Given as goal

-- the cards so far and those to come are all that the owner was dealt
abbrev pub invariant-loop-rest : goal.invariant-loop-rest
invariant-loop-rest l =
    slots_of l.cards ++ dealt_slots (map place_said l.rest) (option_map (λ seat. seat.number) l.owner) l.street ≡ dealt_slots (map place_said l.places) (option_map (λ seat. seat.number) l.owner) l.street

abbrev pub decreases-loop-rest : goal.decreases-loop-rest
decreases-loop-rest l = length l.rest
