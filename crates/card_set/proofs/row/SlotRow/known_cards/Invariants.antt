-- The cards so far are the known ones of the slots so far.
use Rattle.std.proofs.Common.{◌≡◌, ◌≤◌, take}
use Rattle.card_set.specs.Row.{cards_of}
use Rattle.card_set.specs.Known.{known_among}
use Rattle.card_set.proofs.row.SlotRow.known_cards.Given as goal

abbrev pub invariant-loop-slot : goal.invariant-loop-slot
invariant-loop-slot l = (cards_of l.cards ≡ known_among (take l.slot-index l.slot-items)) × (l.cards.len ≤ l.slot-index)
