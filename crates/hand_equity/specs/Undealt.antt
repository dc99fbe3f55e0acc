-- The cards that may still come.
use Rattle.std.specs.Prelude.{Bool, ◌&&◌, ◌||◌, not, List, filter, take}
use Rattle.std.specs.List.{list_any}
use Rattle.card_set.specs.declared.card.Card.{Card}
use Rattle.card_set.specs.declared.row.CardRow.{CardRow}
use Rattle.card_set.specs.declared.set.CardSet.{CardSet}
use Rattle.card_set.specs.CardSet.{every_card, is_in, is_one_of}
use Rattle.card_set.specs.Row.{cards_of}
use Rattle.chip_ledger.specs.declared.live_row.LiveRow.{LiveRow}
use Rattle.chip_ledger.specs.Seat.{seats_of}
use Rattle.play_event.specs.declared.code.Code.{Code}
use Rattle.play_event.specs.declared.hands.HandRow.{HandRow}
use Rattle.play_event.specs.Taken.{is_in_deck}
use Rattle.hand_equity.specs.declared.undealt.Undealt.{Undealt}
use Rattle.hand_equity.specs.LiveHands.{LiveHands, live_hands}

-- the cards on the table: the live hands, the board so far, and the dead cards
pub record Standing : Type 0 where
  pub hands : LiveHands
  pub board : List Card
  pub dead : Card → Bool

-- a live seat holds the card
abbrev pub is_held : LiveHands → Card → Bool
is_held hands card =
    list_any
    (λ seat. hands.live seat && is_one_of card (hands.holding seat))
    (seats_of hands.seats)

-- the card is out: it is dead, on the board, or held by a live seat
abbrev pub is_out : Standing → Card → Bool
is_out standing card =
    (standing.dead card || is_one_of card standing.board) || is_held standing.hands card

-- the rest: the cards of the game's deck that are not out, in the order of the deck
abbrev pub rest_of : Code → Standing → List Card
rest_of code standing =
    filter (λ card. is_in_deck code card && not (is_out standing card)) every_card

-- the cards of a row of the rest
abbrev pub rest_cards : Undealt → List Card
rest_cards rest = take rest.len rest.cards

-- the cards on the table, from a row of hands, a row of live seats, a board, and a set of dead
-- cards
abbrev pub standing_of : HandRow → LiveRow → CardRow → CardSet → Standing
standing_of hands live board dead = record {
  hands = live_hands hands live;
  board = cards_of board;
  dead = is_in dead;
}
