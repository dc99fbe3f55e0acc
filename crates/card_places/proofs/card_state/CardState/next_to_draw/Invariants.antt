-- No seat so far has to draw.
use Rattle.std.proofs.Common.{◌≡◌, false}
use Rattle.std.specs.List.{list_any}
use Rattle.chip_ledger.specs.Seat.{seats_of}
use Rattle.card_places.specs.Refusals.{has_to_draw}
use Rattle.card_places.proofs.card_state.CardState.next_to_draw.Given as goal

abbrev pub invariant-loop-index : goal.invariant-loop-index
invariant-loop-index l = list_any (has_to_draw l.self l.live l.on) (seats_of l.index) ≡ false
