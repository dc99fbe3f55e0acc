-- What a row holds after its last entry.
use Rattle.card_set.specs.declared.card.Card.{Card}
use Rattle.card_set.specs.declared.card.Rank.TheVariants as ranks
use Rattle.card_set.specs.declared.card.Suit.TheVariants as suits
use Rattle.card_set.specs.declared.card.Slot.{Slot}
use Rattle.card_set.specs.declared.card.Slot.TheVariants as slots

-- after the last slot of a row: an unknown slot
abbrev pub filler_slot : Slot
filler_slot = slots.Unknown

-- after the last card of a row: the two of clubs
abbrev pub filler_card : Card
filler_card = record { rank = ranks.Two; suit = suits.C }
