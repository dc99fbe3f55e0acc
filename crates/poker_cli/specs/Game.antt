-- What `game` answers: the game file that fits the first hand.
use Rattle.std.specs.Prelude.{◌≡◌, List, [], ◌∷◌, Some, Result, Ok, Err, IfOk}
use Rattle.acpc_game.specs.GameFile.{GameSaid}
use Rattle.acpc_game.specs.GameText.{game_text}
use Rattle.acpc_game.specs.GameView.{game_in}
use Rattle.acpc_game.specs.declared.game.Game.{Game}
use Rattle.acpc_format.specs.GameOf.{game_for}
use Rattle.hand_canon.specs.declared.trace.Play.{Play}
use Rattle.hand_canon.specs.declared.writing.Unspelled.{Unspelled}
use Rattle.poker_cli.specs.AnswerParts.{Answer, done, to_unspelled}
use Rattle.poker_cli.specs.GameFiles.{GivesGame}

-- the answer with the game file of a hand, or with the fact of it that a game file cannot express
abbrev pub to_game : Result GameSaid Unspelled → Answer
to_game (Ok game) = done (game_text game)
to_game (Err fact) = to_unspelled 1 fact

-- the answer to a request for the game file of the first hand: empty if there are no hands
abbrev pub to_first_game : List Play → Answer
to_first_game [] = done []
to_first_game (play ∷ plays) = to_game (game_for play.trace.setup)

-- if the first hand has a game file, then the output is a game file with that game
abbrev pub GivesFirstGame : List Play → Answer → Type 0
GivesFirstGame [] answer = Unit {0}
GivesFirstGame (play ∷ plays) answer =
    IfOk (game_for play.trace.setup) (λ said.
    (game : Game) × ((game_in game ≡ said) × GivesGame (Some answer.output) game))

-- The answer to a request for the game file of the first hand: its only form, which can be used as
-- a game file again.
pub record IsGameReply (plays : List Play) (answer : Answer) : Type 0 where
  pub shown : answer ≡ to_first_game plays
  pub taken : GivesFirstGame plays answer
