-- The live hands, and how they compare on a board.
use Rattle.std.specs.Prelude.{ℕ, ◌++◌, Bool, IsTrue, List}
use Rattle.card_set.specs.declared.card.Card.{Card}
use Rattle.card_set.specs.declared.pick.Pick.{Pick}
use Rattle.card_set.specs.Different.{AllDifferent}
use Rattle.chip_ledger.specs.declared.live_row.LiveRow.{LiveRow}
use Rattle.chip_ledger.specs.LiveRow.{flag_of}
use Rattle.chip_ledger.specs.Seat.{IsSeatOf}
use Rattle.hand_order.specs.Best.{Beats}
use Rattle.hand_order.specs.Choices.{CanPick, allowed}
use Rattle.play_event.specs.declared.hands.HandRow.{HandRow}
use Rattle.showdown_split.specs.Hands.{holding}
use Rattle.variant_table.specs.Orders.{Order}
use Rattle.variant_table.specs.Shares.{HasHand}
use Rattle.hand_equity.specs.Contest.{Contest}

-- the number of seats, which of them are live, and the hole cards of each
pub record LiveHands : Type 0 where
  pub seats : ℕ
  pub live : ℕ → Bool
  pub holding : ℕ → List Card

-- a seat of the hand is live
abbrev pub IsLive : LiveHands → ℕ → Type 0
IsLive hands seat = IsSeatOf hands.seats seat × IsTrue (hands.live seat)

-- an order with this number of cards in a hand, these hands and this comparison
abbrev pub order_of : ℕ → (List Card → Type 0) → (List Card → List Card → Type 0) → Order
order_of held is_hand is_weaker = record { held = held; is_hand = is_hand; is_weaker = is_weaker }

-- a seat beats another on a board, by the best hand that each can choose
abbrev pub beats_on : Order → Pick → LiveHands → List Card → ℕ → ℕ → Type 0
beats_on order pick hands board seat other =
    Beats
    order.is_hand
    order.is_weaker
    (allowed pick (hands.holding seat) board)
    (allowed pick (hands.holding other) board)

-- the contest of the live seats on a board
abbrev pub contest_of_live : Order → Pick → LiveHands → List Card → Contest
contest_of_live order pick hands board = record {
  contends = IsLive hands;
  beats = beats_on order pick hands board;
}

-- the contest of the live seats that have a hand of the order on a board
abbrev pub contest_of_hands : Order → Pick → LiveHands → List Card → Contest
contest_of_hands order pick hands board = record {
  contends = λ seat. IsLive hands seat
      × HasHand order (allowed pick (hands.holding seat) board);
  beats = beats_on order pick hands board;
}

-- on a board each live seat has cards that the pick can use, all different from one another and
-- from the board's
pub record CanPlay (held : ℕ) (pick : Pick) (hands : LiveHands) (board : List Card) : Type 0 where
  pub usable : (seat : ℕ) → IsLive hands seat → CanPick held pick (hands.holding seat) board
  pub different : (seat : ℕ) → IsLive hands seat → AllDifferent (hands.holding seat ++ board)

-- the live hands in a row of hands and a row of live seats; only known cards count
abbrev pub live_hands : HandRow → LiveRow → LiveHands
live_hands hands live = record {
  seats = live.seats;
  live = flag_of live;
  holding = holding hands;
}
