-- No seat so far is owed a card.
use Rattle.std.proofs.Common.{◌≡◌, false, nat_lt}
use Rattle.std.specs.List.{list_any}
use Rattle.chip_ledger.specs.Seat.{seats_of}
use Rattle.card_places.specs.Refusals.{owed_in}
use Rattle.card_places.proofs.card_state.CardState.next_deal.Given as goal

abbrev pub invariant-loop-index : goal.invariant-loop-index
invariant-loop-index l = list_any (λ seat. nat_lt 0 (owed_in l.self l.live l.on seat)) (seats_of l.index) ≡ false
