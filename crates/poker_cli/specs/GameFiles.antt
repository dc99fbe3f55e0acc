-- What a game file gives: its game, or the answer that says why it gives none.
use Rattle.std.specs.Prelude.{◌≡◌, ℕ, ◌<◌, ◌≤◌, List, length, codes, Option, Some, Ok, Err, None}
use Rattle.acpc_game.specs.GameFile.{game_said}
use Rattle.acpc_game.specs.GameView.{game_in}
use Rattle.acpc_game.specs.declared.fault.AcpcFault.{AcpcFault}
use Rattle.acpc_game.specs.declared.fault.AcpcFault.TheVariants as acpc_faults
use Rattle.acpc_game.specs.declared.game.Game.{Game}
use Rattle.host_io.specs.declared.shelf.ShelfFault.{ShelfFault}
use Rattle.host_io.specs.declared.shelf.ShelfFault.TheVariants as shelf_faults
use Rattle.poker_cli.specs.AcpcFaults.{bad_game_line}
use Rattle.poker_cli.specs.AnswerParts.{Answer, most_input, refusal}
use Rattle.poker_cli.specs.Limits.{excess_line}
use Rattle.poker_cli.specs.declared.game_files.GameFileError.{GameFileError}
use Rattle.poker_cli.specs.declared.game_files.GameFileError.TheVariants as lacks
use Rattle.poker_cli.specs.declared.game_files.NoGameError.{NoGameError}
use Rattle.poker_cli.specs.declared.game_files.NoGameError.TheVariants as reasons
use Rattle.poker_cli.specs.declared.status.Status.TheVariants as statuses

-- This is the game in a game file.
pub record GivesGame (file : Option (List ℕ)) (game : Game) : Type 0 where
  pub text : List ℕ
  pub there : file ≡ Some text
  pub short : length text ≤ most_input
  pub says : game_said text ≡ Ok (game_in game)

-- the answer to a game file that is too long
abbrev pub to_game_excess : Answer
to_game_excess = refusal statuses.Limit (excess_line (codes "game bytes") most_input)

-- the answer to a game file that cannot be read as a game, by its first fault
abbrev pub to_bad_game : AcpcFault → Answer
to_bad_game fault = refusal statuses.BadGame (bad_game_line fault)

-- A game file gives no game, and this is the answer.
pub data GivesNoGame (file : Option (List ℕ)) : Answer → Type 0 where
  -- it is too long
  FileTooLong : (text : List ℕ) → file ≡ Some text → most_input < length text
      → GivesNoGame file to_game_excess
  -- it is not the file of a game that is supported
  BadGame : (text : List ℕ) → file ≡ Some text → length text ≤ most_input
      → (fault : AcpcFault) → game_said text ≡ Err fault → GivesNoGame file (to_bad_game fault)

-- this is wrong with a game file
abbrev pub Lacks : Option (List ℕ) → GameFileError → Type 0
Lacks file lacks.TooLong = (text : List ℕ) × ((file ≡ Some text) × (most_input < length text))
Lacks file (lacks.Bad fault) =
    (text : List ℕ)
    × ((file ≡ Some text) × ((length text ≤ most_input) × (game_said text ≡ Err fault)))

-- a game file gives no game for this reason; nothing is known of the file if it could not be read
-- or memory ran out
abbrev pub HasNoGame : Option (List ℕ) → NoGameError → Type 0
HasNoGame file reasons.Missing = file ≡ None
HasNoGame file (reasons.Lacking lack) = Lacks file lack
HasNoGame file reasons.ShelfFault = Unit {0}
HasNoGame file (reasons.Memory memory) = Unit {0}

-- why there is no game if the shelf gives no answer
abbrev pub no_game_from : ShelfFault → NoGameError
no_game_from shelf_faults.Failed = reasons.ShelfFault
no_game_from (shelf_faults.Memory memory) = reasons.Memory memory

-- why there is no game if a file cannot be read as one
abbrev pub no_game_in : AcpcFault → NoGameError
no_game_in (acpc_faults.Memory memory) = reasons.Memory memory
no_game_in fault = reasons.Lacking (lacks.Bad fault)

-- the answer reports what is wrong with the game file
abbrev pub IsGameFileErrorAnswer : GameFileError → Answer → Type 0
IsGameFileErrorAnswer lacks.TooLong answer = answer ≡ to_game_excess
IsGameFileErrorAnswer (lacks.Bad fault) answer = answer ≡ to_bad_game fault
