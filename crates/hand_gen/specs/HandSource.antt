-- What a hand is made from: the generator's number, and the cards that are left in the deck.
use Rattle.std.specs.Prelude.{ℕ, zero, suc, List, [], ◌∷◌, length, map, filter, slice_get, unwrap_or}
use Rattle.std.specs.List.{range_with_len, remove}
use Rattle.card_set.specs.declared.card.Card.{Card}
use Rattle.card_set.specs.Deck.{card_with_index}
use Rattle.play_event.specs.declared.code.Code.{Code}
use Rattle.play_event.specs.Taken.{is_in_deck}
use Rattle.hand_gen.specs.Draws.{choice_among, next_number}

-- the cards that are left, in the order of the deck
pub record HandSource : Type 0 where
  pub number : ℕ
  pub deck : List Card

-- the whole deck of a game: by rank from the lowest, and then by suit c, d, h, s
abbrev pub full_deck : Code → List Card
full_deck code = filter (is_in_deck code) (map card_with_index (range_with_len 0 52))

-- what is drawn next, among this number of choices
abbrev pub draw_of : ℕ → HandSource → ℕ
draw_of count stock = choice_among count (next_number stock.number)

-- the stock after one number is drawn
abbrev pub after_draw : HandSource → HandSource
after_draw stock = record { number = next_number stock.number; deck = stock.deck }

-- the place of the next card in the deck: a draw among the cards that are left
abbrev pub next_place : HandSource → ℕ
next_place stock = draw_of (length stock.deck) stock

-- the next card; for an empty deck, from which no hand takes a card, the two of clubs
abbrev pub next_card : HandSource → Card
next_card stock = unwrap_or (slice_get stock.deck (next_place stock)) (card_with_index 0)

-- the stock without it
abbrev pub after_card : HandSource → HandSource
after_card stock =
    record { number = next_number stock.number; deck = remove stock.deck (next_place stock) }

-- this number of cards, taken one after another
abbrev pub next_cards : ℕ → HandSource → List Card
next_cards zero stock = []
next_cards (suc count) stock = next_card stock ∷ next_cards count (after_card stock)

-- the stock after them
abbrev pub after_cards : ℕ → HandSource → HandSource
after_cards zero stock = stock
after_cards (suc count) stock = after_cards count (after_card stock)
