-- Reads packed bytes from left to right: what is at their front, and the bytes after it.
use Rattle.std.specs.Prelude.{ℕ, ◌-◌, ◌==◌, ◌&&◌, nat_le, nat_lt, if◌then◌else◌, List, [], ◌∷◌, length, map, take, drop, Option, Some, None}
use Rattle.std.specs.Int.{Width, w32, w64, byte_len, from_be_bytes}
use Rattle.card_set.specs.declared.card.Card.{Card}
use Rattle.card_set.specs.declared.card.Slot.{Slot}
use Rattle.card_set.specs.declared.card.Slot.TheVariants as slots
use Rattle.card_set.specs.Deck.{card_with_index}
use Rattle.play_event.specs.declared.event.Spelled.{Spelled}
use Rattle.play_event.specs.declared.event.Spelled.TheVariants as spelled
use Rattle.play_event.specs.Said as said
use Rattle.play_event.specs.Said.{Said, Numbered}

-- a function applied to a value that is there; `None` if it is not
infixl 10 ◌>>=◌
abbrev pub ◌>>=◌ : {A B : Type 0} → Option A → (A → Option B) → Option B
None >>= next = None
(Some value) >>= next = next value

-- a byte
abbrev pub byte_at : List ℕ → Option (ℕ × List ℕ)
byte_at [] = None
byte_at (byte ∷ rest) = Some (byte, rest)

-- a number of this number of bytes, the most significant first
unfoldable pub number_at : Width → List ℕ → Option (ℕ × List ℕ)
number_at width bytes =
    if nat_lt (length bytes) (byte_len width) then None
    else Some (from_be_bytes width (take (byte_len width) bytes), drop (byte_len width) bytes)

-- up to seven bytes after their count
unfoldable pub counted_at : List ℕ → Option (List ℕ × List ℕ)
counted_at bytes = do
  count ← byte_at bytes
  if nat_le count.0 7 && nat_le count.0 (length count.1)
      then Some (take count.0 count.1, drop count.0 count.1)
      else None

-- the seat with this number, if a hand can have it
abbrev pub seat_numbered : ℕ → Option ℕ
seat_numbered number = if nat_le 1 number && nat_le number 10 then Some number else None

-- the seat whose number a byte is
unfoldable pub seat_at : List ℕ → Option (ℕ × List ℕ)
seat_at bytes = do
  number ← byte_at bytes
  seat ← seat_numbered number.0
  Some (seat, number.1)

-- an actor, who may be left out
unfoldable pub actor_at : List ℕ → Option (Option ℕ × List ℕ)
actor_at bytes = do
  number ← byte_at bytes
  if number.0 == 0
      then Some (None, number.1)
      else (seat_numbered number.0 >>= λ seat. Some (Some seat, number.1))

-- the card of a byte from 1 to 52: its place in the deck, counted from 1
abbrev pub card_of : ℕ → Card
card_of byte = card_with_index (byte - 1)

-- the slot of a byte: 0 is an unknown card
abbrev pub slot_of : ℕ → Slot
slot_of byte = if byte == 0 then slots.Unknown else slots.Known (card_of byte)

-- up to seven slots after their count
unfoldable pub slots_at : List ℕ → Option (List Slot × List ℕ)
slots_at bytes = do
  row ← counted_at bytes
  Some (map slot_of row.0, row.1)

-- up to seven cards after their count
unfoldable pub cards_at : List ℕ → Option (List Card × List ℕ)
cards_at bytes = do
  row ← counted_at bytes
  Some (map card_of row.0, row.1)

-- the chips of a call, which may be left out
unfoldable pub stated_at : List ℕ → Option (Option ℕ × List ℕ)
stated_at bytes = do
  flag ← byte_at bytes
  if flag.0 == 0
      then Some (None, flag.1)
      else (number_at w64 flag.1 >>= λ chips. Some (Some chips.0, chips.1))

-- the amount of a raise
unfoldable pub amount_at : List ℕ → Option (Spelled × List ℕ)
amount_at bytes = do
  spelling ← byte_at bytes
  if spelling.0 == 4
      then Some (spelled.Unit, spelling.1)
      else (number_at w64 spelling.1 >>= λ chips. Some (
        (if spelling.0 == 1
            then spelled.To chips.0
            else if spelling.0 == 2
            then spelled.Added chips.0
            else spelled.HandTotal chips.0),
        chips.1,
      ))

-- what an event of the kind with this number says of a player who may be left out
unfoldable pub move_at : ℕ → Option ℕ → List ℕ → Option (Said × List ℕ)
move_at number actor bytes =
    if number == 3 then Some (said.Fold actor, bytes)
    else if number == 4
    then (stated_at bytes >>= λ stated. Some (said.Call actor stated.0, stated.1))
    else if number == 5
    then (amount_at bytes >>= λ amount. Some (said.Raise actor amount.0, amount.1))
    else if number == 6 then Some (said.BringIn actor, bytes)
    else None

-- what an event of the kind with this number says of the cards of a seat
unfoldable pub hand_at : ℕ → ℕ → List ℕ → Option (Said × List ℕ)
hand_at number seat bytes =
    if number == 1 then (slots_at bytes >>= λ cards. Some (said.Hole seat cards.0, cards.1))
    else if number == 7 then (slots_at bytes >>= λ cards. Some (said.Discard seat cards.0, cards.1))
    else if number == 8 then (cards_at bytes >>= λ cards. Some (said.Show seat cards.0, cards.1))
    else if number == 9 then Some (said.Muck seat, bytes)
    else None

-- what an event of the kind with this number says
unfoldable pub kind_at : ℕ → List ℕ → Option (Said × List ℕ)
kind_at number bytes =
    if number == 2 then (cards_at bytes >>= λ cards. Some (said.Board cards.0, cards.1))
    else if nat_le 3 number && nat_le number 6
    then (actor_at bytes >>= λ actor. move_at number actor.0 actor.1)
    else (seat_at bytes >>= λ seat. hand_at number seat.0 seat.1)

-- an event
unfoldable pub event_at : List ℕ → Option (Numbered × List ℕ)
event_at bytes = do
  number ← byte_at bytes
  at ← number_at w32 number.1
  kind ← kind_at number.0 at.1
  Some ((at.0, kind.0), kind.1)
