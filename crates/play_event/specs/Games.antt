-- The eleven games: deck, limit, who acts first, how many cards there are and which make a hand,
-- the most seats, and the streets with their cards and bet sizes.
use Rattle.std.specs.Prelude.{ℕ, ◌+◌, ◌-◌, Bool, true, false, List, [], ◌∷◌, length, slice_get}
use Rattle.std.specs.Option.{option_map_or}
use Rattle.card_set.specs.declared.pick.Pick.{Pick}
use Rattle.card_set.specs.declared.pick.Pick.TheVariants as picks
use Rattle.play_event.specs.declared.code.Code.{Code}
use Rattle.play_event.specs.declared.code.Code.TheVariants as games
use Rattle.play_event.specs.declared.limit.Limit.{Limit}
use Rattle.play_event.specs.declared.limit.Limit.TheVariants as limits
use Rattle.play_event.specs.declared.limit.Opener.{Opener}
use Rattle.play_event.specs.declared.limit.Opener.TheVariants as openers
use Rattle.play_event.specs.declared.street.Size.{Size}
use Rattle.play_event.specs.declared.street.Size.TheVariants as sizes
use Rattle.play_event.specs.declared.street.Street.{Street}

-- a game: its deck, its limit and who acts first; the cards of a seat and of the board at the end,
-- and which of them make a hand; whether half of each pot goes to the best low hand; the most
-- seats; and the streets
pub record Game : Type 0 where
  pub deck : ℕ
  pub limit : Limit
  pub opener : Opener
  pub hole : ℕ
  pub board : ℕ
  pub pick : Pick
  pub split : Bool
  pub seats : ℕ
  pub streets : List Street

-- a street that deals this number of hole cards
abbrev pub hole_street : ℕ → Size → Street
hole_street cards size = record { down = cards; up = 0; board = 0; draws = false; size = size }

-- a street that deals this number of cards to the board
abbrev pub board_street : ℕ → Size → Street
board_street cards size = record { down = 0; up = 0; board = cards; draws = false; size = size }

-- a street on which each live seat draws
abbrev pub draw_street : Size → Street
draw_street size = record { down = 0; up = 0; board = 0; draws = true; size = size }

-- a street of stud
abbrev pub stud_street : ℕ → ℕ → Size → Street
stud_street down up size = record { down = down; up = up; board = 0; draws = false; size = size }

-- hold'em and Omaha: hole cards, then three, one and one on the board
abbrev pub flop_streets : ℕ → Size → Size → List Street
flop_streets cards early late =
    hole_street cards early ∷ board_street 3 early ∷ board_street 1 late ∷ board_street 1 late ∷ []

-- stud: two cards down and one up, three times one up, and one down
abbrev pub stud_streets : List Street
stud_streets =
    stud_street 2 1 sizes.Small ∷ stud_street 0 1 sizes.Small ∷ stud_street 0 1 sizes.Big
    ∷ stud_street 0 1 sizes.Big ∷ stud_street 1 0 sizes.Big ∷ []

-- three draws
abbrev pub draw_streets : ℕ → List Street
draw_streets cards =
    hole_street cards sizes.Small ∷ draw_street sizes.Small ∷ draw_street sizes.Big
    ∷ draw_street sizes.Big ∷ []

-- a row of the table for hold'em and Omaha: the deck, the limit, a seat's hole cards, which hole
-- and board cards make a hand, whether a low hand gets half, and the bet sizes of the first two
-- streets and of the last two
abbrev pub flop_game : ℕ → Limit → ℕ → Pick → Bool → Size → Size → Game
flop_game deck limit hole pick split early late =
    record {
      deck = deck;
      limit = limit;
      opener = openers.Blinds;
      hole = hole;
      board = 5;
      pick = pick;
      split = split;
      seats = 10;
      streets = flop_streets hole early late;
    }

-- a row of the table for stud and razz: whose up-cards act first, and whether a low hand gets half
abbrev pub stud_game : Opener → Bool → Game
stud_game opener split =
    record {
      deck = 52;
      limit = limits.Fixed;
      opener = opener;
      hole = 7;
      board = 0;
      pick = picks.AnyFive;
      split = split;
      seats = 7;
      streets = stud_streets;
    }

-- a row of the table for draw games: the limit, a seat's hole cards, and the streets
abbrev pub draw_game : Limit → ℕ → List Street → Game
draw_game limit hole streets =
    record {
      deck = 52;
      limit = limit;
      opener = openers.Blinds;
      hole = hole;
      board = 0;
      pick = picks.AllHeld;
      split = false;
      seats = 6;
      streets = streets;
    }

-- the table of the eleven games: the game with a code
abbrev pub game_of : Code → Game
game_of games.FT = flop_game 52 limits.Fixed 2 picks.AnyFive false sizes.Small sizes.Big
game_of games.NT = flop_game 52 limits.No 2 picks.AnyFive false sizes.Least sizes.Least
game_of games.NS = flop_game 36 limits.No 2 picks.AnyFive false sizes.Least sizes.Least
game_of games.PO = flop_game 52 limits.Pot 4 picks.TwoAndThree false sizes.Least sizes.Least
game_of games.FO8 = flop_game 52 limits.Fixed 4 picks.TwoAndThree true sizes.Small sizes.Big
game_of games.F7S = stud_game openers.LowUp false
game_of games.F7S8 = stud_game openers.LowUp true
game_of games.FR = stud_game openers.HighUp false
game_of games.N2L1D =
    draw_game limits.No 5 (hole_street 5 sizes.Least ∷ draw_street sizes.Least ∷ [])
game_of games.F2L3D = draw_game limits.Fixed 5 (draw_streets 5)
game_of games.FB = draw_game limits.Fixed 4 (draw_streets 4)

-- how many hole cards the street with this number, from 1, deals to each live seat
abbrev pub hole_cards_on : Code → ℕ → ℕ
hole_cards_on code street =
    option_map_or (λ s. s.down + s.up) (slice_get (game_of code).streets (street - 1)) 0

-- how many cards the street with this number deals to the board
abbrev pub board_cards_on : Code → ℕ → ℕ
board_cards_on code street =
    option_map_or (λ s. s.board) (slice_get (game_of code).streets (street - 1)) 0

-- how many streets the game has
abbrev pub street_count : Code → ℕ
street_count code = length (game_of code).streets

-- the eleven games
abbrev pub all_games : List Code
all_games =
    games.FT ∷ games.NT ∷ games.NS ∷ games.PO ∷ games.FO8 ∷ games.F7S ∷ games.F7S8 ∷ games.FR
    ∷ games.N2L1D ∷ games.F2L3D ∷ games.FB ∷ []
