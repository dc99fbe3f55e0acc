-- What an event says, with plain numbers for seats and plain lists for cards.
use Rattle.std.specs.Prelude.{ℕ, List, Option}
use Rattle.std.specs.Option.{option_map}
use Rattle.card_set.specs.declared.card.Card.{Card}
use Rattle.card_set.specs.declared.card.Slot.{Slot}
use Rattle.card_set.specs.Row.{slots_of, cards_of}
use Rattle.chip_ledger.specs.declared.numbers.Seat.{Seat}
use Rattle.play_event.specs.declared.event.Event.{Event}
use Rattle.play_event.specs.declared.event.Kind.{Kind}
use Rattle.play_event.specs.declared.event.Kind.TheVariants as kinds
use Rattle.play_event.specs.declared.event.Spelled.{Spelled}

-- what happened; a move may leave out its seat
pub data Said : Type 0 where
  Hole : ℕ → List Slot → Said
  Board : List Card → Said
  Fold : Option ℕ → Said
  Call : Option ℕ → Option ℕ → Said
  Raise : Option ℕ → Spelled → Said
  BringIn : Option ℕ → Said
  Discard : ℕ → List Slot → Said
  Show : ℕ → List Card → Said
  Muck : ℕ → Said

-- the number of the seat that is named, if one is
abbrev pub seat_named : Option Seat → Option ℕ
seat_named actor = option_map (λ seat. seat.number) actor

-- what a kind of event says
abbrev pub kind_said : Kind → Said
kind_said (kinds.Hole seat cards) = Hole seat.number (slots_of cards)
kind_said (kinds.Board cards) = Board (cards_of cards)
kind_said (kinds.Fold actor) = Fold (seat_named actor)
kind_said (kinds.Call actor stated) = Call (seat_named actor) stated
kind_said (kinds.Raise actor amount) = Raise (seat_named actor) amount
kind_said (kinds.BringIn actor) = BringIn (seat_named actor)
kind_said (kinds.Discard seat cards) = Discard seat.number (slots_of cards)
kind_said (kinds.Show seat cards) = Show seat.number (cards_of cards)
kind_said (kinds.Muck seat) = Muck seat.number

-- what an event says
abbrev pub said_of : Event → Said
said_of event = kind_said event.kind

-- an event, and the number of its action
abbrev pub Numbered : Type 0
Numbered = ℕ × Said

-- an event by its number and what it says
abbrev pub numbered : Event → Numbered
numbered event = (event.at, said_of event)
