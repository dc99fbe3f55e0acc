-- How often each live seat wins or ties, over all boards that complete the cards on the table.
use Rattle.std.specs.Prelude.{◌≡◌, ◌-◌, ◌≤◌, ◌==◌, ◌++◌, ℕ, Bool, true, false, List, length, slice_index}
use Rattle.card_set.specs.declared.card.Card.{Card}
use Rattle.card_set.specs.Different.{AllDifferent}
use Rattle.hand_order.specs.Choices.{choices}
use Rattle.play_event.specs.declared.code.Code.{Code}
use Rattle.play_event.specs.Games.{game_of}
use Rattle.variant_table.specs.Orders.{award_of, second_of}
use Rattle.hand_equity.specs.declared.row.EquityRow.{EquityRow}
use Rattle.hand_equity.specs.Boards.{boards_with}
use Rattle.hand_equity.specs.Contest.{Contest, HasNobody, IsShared, Ties, Wins}
use Rattle.hand_equity.specs.Counting.{IsCountOf}
use Rattle.hand_equity.specs.LiveHands.{IsLive, contest_of_hands, contest_of_live}
use Rattle.hand_equity.specs.Undealt.{Standing, rest_of}
use Rattle.hand_equity.specs.Tallies.{count_for}

-- a game with a board of five cards: hold'em, short-deck hold'em or Omaha
abbrev pub plays_board : Code → Bool
plays_board code = (game_of code).board == 5

-- how many cards the board is missing
abbrev pub lacking : Code → Standing → ℕ
lacking code standing = (game_of code).board - length standing.board

-- the completions: the sets of cards of the rest that fill the board, each once, in the order of
-- the deck
abbrev pub completions : Code → Standing → List (List Card)
completions code standing = choices (lacking code standing) (rest_of code standing)

-- the board with each completion
abbrev pub full_boards : Code → Standing → List (List Card)
full_boards code standing =
    boards_with standing.board (lacking code standing) (rest_of code standing)

-- on this number of the boards some seat ties, and each seat wins or ties on its number of them
pub record AreOutcomes
    (contest : List Card → Contest)
    (boards : List (List Card))
    (shared : ℕ)
    (wins ties : List ℕ) : Type 0 where
  pub shared_is : IsCountOf (λ board. IsShared (contest board)) boards shared
  pub wins_are : (seat : ℕ) → 1 ≤ seat
      → IsCountOf (λ board. Wins (contest board) seat) boards (count_for wins seat)
  pub ties_are : (seat : ℕ) → 1 ≤ seat
      → IsCountOf (λ board. Ties (contest board) seat) boards (count_for ties seat)

-- the live seats that have a low hand on a board, in a game that pays low hands
abbrev pub low_contest : Code → Standing → List Card → Contest
low_contest code standing =
    contest_of_hands (second_of code) (game_of code).pick standing.hands

-- the same for the seats that have a low hand; on `low_none` boards no seat has one
pub record IsLowEquity (code : Code) (standing : Standing) (row : EquityRow) : Type 0 where
  pub none : IsCountOf
      (λ board. HasNobody (low_contest code standing board))
      (full_boards code standing)
      row.low_none
  pub outcomes : AreOutcomes
      (low_contest code standing)
      (full_boards code standing)
      row.low_shared
      row.low_wins
      row.low_ties

-- the numbers of low hands are 0
pub record HasNoLow (row : EquityRow) : Type 0 where
  pub none : row.low_none ≡ 0
  pub shared : row.low_shared ≡ 0
  pub wins : (k : ℕ) → slice_index row.low_wins k ≡ 0
  pub ties : (k : ℕ) → slice_index row.low_ties k ≡ 0

-- low hands are counted in a game that pays them
abbrev pub HasLowWhere : Bool → Code → Standing → EquityRow → Type 0
HasLowWhere true code standing row = IsLowEquity code standing row
HasLowWhere false code standing row = HasNoLow row

-- the row is the equity of the cards on the table
pub record IsEquity (code : Code) (standing : Standing) (row : EquityRow) : Type 0 where
  pub total : row.total ≡ length (completions code standing)
  pub high : AreOutcomes
      (contest_of_live (award_of code) (game_of code).pick standing.hands)
      (full_boards code standing)
      row.shared
      row.wins
      row.ties
  pub low : HasLowWhere (game_of code).split code standing row

-- the cards on the table can be completed: the board is not too long, each live seat has all its
-- cards, and these are all different from one another and from the board's
pub record CanComplete (code : Code) (standing : Standing) : Type 0 where
  pub board : length standing.board ≤ (game_of code).board
  pub whole : (seat : ℕ) → IsLive standing.hands seat
      → length (standing.hands.holding seat) ≡ (game_of code).hole
  pub different : (seat : ℕ) → IsLive standing.hands seat
      → AllDifferent (standing.hands.holding seat ++ standing.board)

-- a seat wins and ties 0 times
pub record HasNothing (row : EquityRow) (seat : ℕ) : Type 0 where
  pub wins : count_for row.wins seat ≡ 0
  pub ties : count_for row.ties seat ≡ 0
  pub low_wins : count_for row.low_wins seat ≡ 0
  pub low_ties : count_for row.low_ties seat ≡ 0
