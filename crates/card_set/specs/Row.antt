-- The entries of a row, as a list.
use Rattle.std.specs.Prelude.{List, take}
use Rattle.card_set.specs.declared.card.Card.{Card}
use Rattle.card_set.specs.declared.card.Slot.{Slot}
use Rattle.card_set.specs.declared.row.SlotRow.{SlotRow}
use Rattle.card_set.specs.declared.row.CardRow.{CardRow}

-- the slots of a row, in order
abbrev pub slots_of : SlotRow → List Slot
slots_of row = take row.len row.slots

-- the cards of a row, in order
abbrev pub cards_of : CardRow → List Card
cards_of row = take row.len row.cards
