-- The packed form of a script: the bytes of each event, one event after the other.
use Rattle.std.specs.Prelude.{ℕ, ◌+◌, List, [], ◌∷◌, ◌++◌, length, map, Option, Some, None}
use Rattle.std.specs.Int.{w32, w64, to_be_bytes}
use Rattle.card_set.specs.declared.card.Card.{Card}
use Rattle.card_set.specs.declared.card.Slot.{Slot}
use Rattle.card_set.specs.declared.card.Slot.TheVariants as slots
use Rattle.card_set.specs.Deck.{deck_index}
use Rattle.card_set.specs.Row.{slots_of, cards_of}
use Rattle.chip_ledger.specs.declared.numbers.Seat.{Seat}
use Rattle.play_event.specs.declared.event.Event.{Event}
use Rattle.play_event.specs.declared.event.Kind.{Kind}
use Rattle.play_event.specs.declared.event.Kind.TheVariants as kinds
use Rattle.play_event.specs.declared.event.Spelled.{Spelled}
use Rattle.play_event.specs.declared.event.Spelled.TheVariants as spelled

-- the number of an action: four bytes, the most significant first
abbrev pub at_bytes : ℕ → List ℕ
at_bytes number = to_be_bytes w32 number

-- chips: eight bytes, the most significant first
abbrev pub chips_bytes : ℕ → List ℕ
chips_bytes chips = to_be_bytes w64 chips

-- an actor: the number of its seat, or 0 if none is named
abbrev pub actor_byte : Option Seat → ℕ
actor_byte None = 0
actor_byte (Some seat) = seat.number

-- a card: its place in the deck, from 1 to 52
abbrev pub card_byte : Card → ℕ
card_byte card = deck_index card + 1

-- a slot: its card, or 0 if that is unknown
abbrev pub slot_byte : Slot → ℕ
slot_byte (slots.Known card) = card_byte card
slot_byte slots.Unknown = 0

-- bytes after their count
abbrev pub counted : List ℕ → List ℕ
counted bytes = length bytes ∷ bytes

-- the chips that a call is stated to add: a flag, 1 if they are stated, and then the chips
abbrev pub stated_bytes : Option ℕ → List ℕ
stated_bytes None = 0 ∷ []
stated_bytes (Some chips) = 1 ∷ chips_bytes chips

-- the amount of a raise: the number of the way it is written, and its chips if it has some
abbrev pub amount_bytes : Spelled → List ℕ
amount_bytes (spelled.To chips) = 1 ∷ chips_bytes chips
amount_bytes (spelled.Added chips) = 2 ∷ chips_bytes chips
amount_bytes (spelled.HandTotal chips) = 3 ∷ chips_bytes chips
amount_bytes spelled.Unit = 4 ∷ []

-- the number of a kind of event
abbrev pub kind_byte : Kind → ℕ
kind_byte (kinds.Hole seat cards) = 1
kind_byte (kinds.Board cards) = 2
kind_byte (kinds.Fold actor) = 3
kind_byte (kinds.Call actor stated) = 4
kind_byte (kinds.Raise actor amount) = 5
kind_byte (kinds.BringIn actor) = 6
kind_byte (kinds.Discard seat cards) = 7
kind_byte (kinds.Show seat cards) = 8
kind_byte (kinds.Muck seat) = 9

-- what an event of this kind says
abbrev pub kind_bytes : Kind → List ℕ
kind_bytes (kinds.Hole seat cards) = seat.number ∷ counted (map slot_byte (slots_of cards))
kind_bytes (kinds.Board cards) = counted (map card_byte (cards_of cards))
kind_bytes (kinds.Fold actor) = actor_byte actor ∷ []
kind_bytes (kinds.Call actor stated) = actor_byte actor ∷ stated_bytes stated
kind_bytes (kinds.Raise actor amount) = actor_byte actor ∷ amount_bytes amount
kind_bytes (kinds.BringIn actor) = actor_byte actor ∷ []
kind_bytes (kinds.Discard seat cards) = seat.number ∷ counted (map slot_byte (slots_of cards))
kind_bytes (kinds.Show seat cards) = seat.number ∷ counted (map card_byte (cards_of cards))
kind_bytes (kinds.Muck seat) = seat.number ∷ []

-- an event: the number of its kind, the number of its action, and what it says
unfoldable pub packed_event : Event → List ℕ
packed_event event = kind_byte event.kind ∷ at_bytes event.at ++ kind_bytes event.kind

-- events, one after another
abbrev pub packed_events : List Event → List ℕ
packed_events [] = []
packed_events (event ∷ rest) = packed_event event ++ packed_events rest
