-- Records as the definitions see them, and what each has from its game.
use Rattle.std.specs.Prelude.{◌≡◌, ℕ, Bool, true, false, ◌≤◌, List, [], length, map, take, sum_by, None, is_some, if◌then◌else◌}
use Rattle.std.specs.List.{AllByRecursion}
use Rattle.std.specs.Option.{option_map_or}
use Rattle.chip_ledger.specs.Greatest.{greatest}
use Rattle.chip_ledger.specs.SeatRow.{amount_of, amounts_in}
use Rattle.chip_ledger.specs.RakeRow.{rake_of}
use Rattle.play_event.specs.declared.code.Code.{Code}
use Rattle.play_event.specs.declared.code.Code.TheVariants as game_codes
use Rattle.play_event.specs.declared.setup.Setup.{Setup}
use Rattle.play_event.specs.declared.setup.Rules.{Rules}
use Rattle.play_event.specs.declared.setup.Reopen.TheVariants as reopen
use Rattle.play_event.specs.Said.{numbered}
use Rattle.first_fault.specs.declared.limits.TheConstants.{MOST_FILE_MOVES, MOST_HANDS}
use Rattle.hand_canon.specs.NoteTable.{no_texts, texts_of}
use Rattle.hand_canon.specs.declared.notes.Notes.{Notes}
use Rattle.hand_canon.specs.declared.record.Record.{Record}
use Rattle.hand_canon.specs.declared.record.Stated.{Stated}
use Rattle.hand_canon.specs.SoundRecord.{IsSoundRecord}
use Rattle.acpc_game.specs.declared.game.Game.{Game}
use Rattle.acpc_reading.specs.Logs.{HandSaid}
use Rattle.acpc_reading.specs.Views.{nets_in}
use Rattle.hand_canon.specs.Moves.{moves_of}

-- a record as the hand that a line says
abbrev pub record_said : Record → HandSaid
record_said hand = record {
  events = map numbered hand.script;
  values = option_map_or nets_in hand.stated.values [];
  names = take hand.setup.stacks.seats hand.notes.names;
  hand = hand.notes.hand;
}

-- the variant code of a game
abbrev pub code_of : Bool → Code
code_of true = game_codes.NT
code_of false = game_codes.FT

-- the least bet in chips: in no-limit the greatest blind; in limit there is none, 0
abbrev pub least_bet : Game → ℕ
least_bet game = if game.no_limit then greatest (amounts_in game.blinds) else 0

-- a setup is that of a game: its stacks and blinds, no antes, no rake, its raise sizes and its
-- least bet
pub record IsSetupOf (game : Game) (setup : Setup) : Type 0 where
  pub code : setup.code ≡ code_of game.no_limit
  pub stacks : setup.stacks ≡ game.stacks
  pub antes : (seat : ℕ) → amount_of setup.antes seat ≡ 0
  pub ante_seats : setup.antes.seats ≡ game.stacks.seats
  pub dead_antes : setup.dead_antes ≡ false
  pub blinds : setup.blinds ≡ game.blinds
  pub bring_in : setup.bring_in ≡ 0
  pub small_bet : setup.small_bet ≡ game.small_raise
  pub big_bet : setup.big_bet ≡ game.big_raise
  pub min_bet : setup.min_bet ≡ least_bet game
  pub rakes : (pot : ℕ) → rake_of setup.rakes pot ≡ 0

-- the rules of a game: a raise always reopens the betting, a fold where nothing is owed is not
-- allowed, and raises are capped as the file says
abbrev pub rules_of : Game → Rules
rules_of game = record { reopen = reopen.Always; free_fold = false; caps = game.caps }

-- only the values are stated about the end of the hand
pub record StatesValues (stated : Stated) : Type 0 where
  pub values : is_some stated.values ≡ true
  pub finish : stated.finish ≡ None
  pub wins : stated.wins ≡ None
  pub pot_total : stated.pot_total ≡ None

-- the notes have only the names of the players and the number of the hand
pub record NotesNames (notes : Notes) : Type 0 where
  pub seats : notes.seats ≡ None
  pub seat_count : notes.seat_count ≡ None
  pub texts : texts_of notes ≡ no_texts
  pub year : notes.year ≡ None
  pub month : notes.month ≡ None
  pub day : notes.day ≡ None
  pub time : notes.time ≡ None
  pub zone : notes.zone ≡ None

-- a record is one of this game: it has the game's setup and rules, states and notes only what a
-- line says, and is sound
pub record IsOfGame (game : Game) (hand : Record) : Type 0 where
  pub setup : IsSetupOf game hand.setup
  pub rules : hand.rules ≡ rules_of game
  pub stated : StatesValues hand.stated
  pub notes : NotesNames hand.notes
  pub sound : IsSoundRecord hand

-- the records of a file so far, which have this number of moves
pub record AreOfGame (game : Game) (hands : List Record) (file_moves : ℕ) : Type 0 where
  pub each : AllByRecursion (IsOfGame game) hands
  pub few : length hands ≤ MOST_HANDS
  pub moves : sum_by moves_of hands ≡ file_moves
  pub few_moves : file_moves ≤ MOST_FILE_MOVES
