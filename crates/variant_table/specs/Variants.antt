-- What holds of each variant: its constants and orders are those of its code, and its cards add up.
use Rattle.std.specs.Prelude.{◌≡◌, ℕ, ◌+◌, ◌*◌, ◌≤◌, Bool, List, [], ◌∷◌, length, ◌↔◌}
use Rattle.card_set.specs.declared.card.Card.{Card}
use Rattle.play_event.specs.declared.limit.Limit.{Limit}
use Rattle.play_event.specs.declared.limit.Opener.{Opener}
use Rattle.play_event.specs.Games.{Game}
use Rattle.play_event.specs.declared.street.Street.{Street}
use Rattle.card_set.specs.declared.pick.Pick.{Pick}
use Rattle.hand_order.specs.Choices.{CanPick}
use Rattle.variant_table.specs.Orders.{Order}

-- the values are those of the game
pub record AreValuesOf (game : Game) (split : Bool) (pick : Pick) (limit : Limit) (opener : Opener)
    (deck seats streets : ℕ) : Type 0 where
  pub split_is : split ≡ game.split
  pub pick_is : pick ≡ game.pick
  pub limit_is : limit ≡ game.limit
  pub opener_is : opener ≡ game.opener
  pub deck_is : deck ≡ game.deck
  pub seats_is : seats ≡ game.seats
  pub streets_is : streets ≡ length game.streets

-- an order has the same hands as this one, and compares them the same way
pub record IsOrder (order : Order) (held : ℕ) (is_hand : List Card → Type 0)
    (is_weaker : List Card → List Card → Type 0) : Type 0 where
  pub held_is : held ≡ order.held
  pub hand_is : (cards : List Card) → is_hand cards ↔ order.is_hand cards
  pub weaker_is : (a b : List Card) → is_weaker a b ↔ order.is_weaker a b

-- the number of hole cards of some streets together
abbrev pub hole_cards : List Street → ℕ
hole_cards [] = 0
hole_cards (street ∷ rest) = street.down + street.up + hole_cards rest

-- the number of board cards of some streets together
abbrev pub board_cards : List Street → ℕ
board_cards [] = 0
board_cards (street ∷ rest) = street.board + board_cards rest

-- the streets deal the cards of a hand and of the board, and a full table needs no more cards than
-- the deck has
pub record AddsUp (game : Game) : Type 0 where
  pub hole : hole_cards game.streets ≡ game.hole
  pub board : board_cards game.streets ≡ game.board
  pub fits : game.seats * game.hole + game.board ≤ game.deck

-- the pick works on the cards of a whole hand and a whole board, in an order whose hands have this
-- number of cards
abbrev pub IsUsable : Game → ℕ → Pick → Type 0
IsUsable game held pick =
    (hole board : List Card) → length hole ≡ game.hole → length board ≡ game.board
    → CanPick held pick hole board
