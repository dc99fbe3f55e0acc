-- The one way in which a game file is written.
use Rattle.std.specs.Prelude.{ℕ, Bool, if◌then◌else◌, List, [], ◌∷◌, ◌++◌, length, codes, Option, Some, None}
use Rattle.acpc_game.specs.GameFile.{GameSaid, first_player}
use Rattle.chip_ledger.specs.AmountTexts.{spaced}

-- a line that ends with a newline
abbrev pub ended : List ℕ → List ℕ
ended line = line ++ 10 ∷ []

-- a line of the form: key, =, numbers
unfoldable pub key_line : List ℕ → List ℕ → List ℕ
key_line word numbers = ended (word ++ (codes " =" ++ spaced numbers))

-- the line that says whether the game has a limit
unfoldable pub kind_text : Bool → List ℕ
kind_text no_limit = if no_limit then codes "nolimit\n" else codes "limit\n"

-- the lines with the numbers of players and of rounds
unfoldable pub counts_text : ℕ → List ℕ
counts_text players =
    key_line (codes "numPlayers") (players ∷ []) ++ key_line (codes "numRounds") (4 ∷ [])

-- the lines with the stacks and the blinds
unfoldable pub seat_lines : List ℕ → List ℕ → List ℕ
seat_lines stacks blinds = key_line (codes "stack") stacks ++ key_line (codes "blind") blinds

-- the lines from the limit to the blinds
unfoldable pub chips_text : GameSaid → List ℕ
chips_text game =
    kind_text game.no_limit
    ++ (counts_text (length game.stacks) ++ seat_lines game.stacks game.blinds)

-- the line with the raise sizes of a limit game
unfoldable pub sizes_text : GameSaid → List ℕ
sizes_text game =
    if game.no_limit then []
    else key_line (codes "raiseSize")
    (game.small_raise ∷ game.small_raise ∷ game.big_raise ∷ game.big_raise ∷ [])

-- the line with the seat that acts first in each round
unfoldable pub first_text : List ℕ → List ℕ
first_text blinds = key_line (codes "firstPlayer") (first_player blinds ∷ 1 ∷ 1 ∷ 1 ∷ [])

-- the line with the most raises of each round, if the game caps them
unfoldable pub caps_text : Option (List ℕ) → List ℕ
caps_text None = []
caps_text (Some caps) = key_line (codes "maxRaises") caps

-- the lines with the first seats of the rounds and the caps
unfoldable pub turns_text : GameSaid → List ℕ
turns_text game = first_text game.blinds ++ caps_text game.caps

-- the lines with the cards, which are those of hold'em
abbrev pub cards_text : List ℕ
cards_text = codes "numSuits = 4\nnumRanks = 13\nnumHoleCards = 2\nnumBoardCards = 0 3 1 1\n"

-- the bytes of the game file of a game
unfoldable pub game_text : GameSaid → List ℕ
game_text game =
    codes "GAMEDEF\n"
    ++ (chips_text game
    ++ (sizes_text game ++ (turns_text game ++ (cards_text ++ codes "END GAMEDEF\n"))))
