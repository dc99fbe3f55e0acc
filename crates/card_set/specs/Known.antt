-- Which slots are unknown, and the known cards among slots.
use Rattle.std.specs.Prelude.{Bool, true, false, List, [], ◌∷◌, map}
use Rattle.card_set.specs.declared.card.Card.{Card}
use Rattle.card_set.specs.declared.card.Slot.{Slot}
use Rattle.card_set.specs.declared.card.Slot.TheVariants as slots

-- a slot hides its card: the card is unknown
abbrev pub hides_card : Slot → Bool
hides_card slots.Unknown = true
hides_card (slots.Known card) = false

-- these cards as known slots, in order
abbrev pub known_slots : List Card → List Slot
known_slots cards = map (λ card. slots.Known card) cards

-- the known cards of some slots, in order
abbrev pub known_among : List Slot → List Card
known_among [] = []
known_among (slots.Known card ∷ rest) = card ∷ known_among rest
known_among (slots.Unknown ∷ rest) = known_among rest
