use Rattle.std.proofs.Common.{◌≡◌, ◌≤◌, ◌+◌, ◌++◌, length, take, count_by}
use Rattle.play_event.specs.Places.{is_in_group, places_dealt}
use Rattle.card_places.specs.Placed.{placed}
use Rattle.card_places.proofs.dealt_cards.DealtCards.put.Given as goal
use Rattle.chip_ledger.specs.SeatsSaid.{seat_said}

abbrev pub invariant-loop-slot : goal.invariant-loop-slot
invariant-loop-slot l =
    (l.self.count ≡ l.fn.self.count + l.slot-index)
    × (l.index ≡ count_by (is_in_group (seat_said l.owner) l.street) (placed l.fn.self) + l.slot-index)
    × (l.index ≤ l.self.count)
    × (placed l.self ≡ placed l.fn.self ++ places_dealt (seat_said l.owner) l.street l.past_deck (count_by (is_in_group (seat_said l.owner) l.street) (placed l.fn.self)) (length (placed l.fn.self)) (take l.slot-index l.cards))
