use Rattle.std.proofs.Common.{◌≡◌, ◌++◌, length, map}
use Rattle.card_set.specs.Row.{slots_of}
use Rattle.play_event.specs.CanonScript.{held_slots}
use Rattle.hand_canon.specs.TraceRows.{place_said}
use Rattle.ohh_writing.proofs.cards.held_cards.Given as goal

-- the cards so far and those to come are all that the seat holds
abbrev pub invariant-loop-rest : goal.invariant-loop-rest
invariant-loop-rest l = slots_of l.cards ++ held_slots (map place_said l.rest) l.seat.number ≡ held_slots (map place_said l.places) l.seat.number

abbrev pub decreases-loop-rest : goal.decreases-loop-rest
decreases-loop-rest l = length l.rest
