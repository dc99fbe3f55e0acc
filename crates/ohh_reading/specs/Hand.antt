-- A hand: its members are read in this order.
use Rattle.std.specs.Prelude.{ℕ, None, Result, Ok}
use Rattle.serde_json.specs.Data.{Data}
use Rattle.hand_canon.specs.PlainHands.{PlainHand}
use Rattle.hand_canon.specs.SaidNotes.{SaidNotes}
use Rattle.play_event.specs.HistoryRules.{history_rules}
use Rattle.play_event.specs.Games.{game_of}
use Rattle.first_fault.specs.Reading.{◌>>=◌}
use Rattle.ohh_members.specs.declared.dialect.Dialect.{Dialect}
use Rattle.ohh_members.specs.declared.fault.MemberFault.{MemberFault}
use Rattle.ohh_members.specs.Header.{PlainFront, front_said, ids_of, stacks_of}
use Rattle.ohh_reading.specs.Notes.{notes_said}
use Rattle.ohh_reading.specs.Pots.{PlainPaid, pots_said}
use Rattle.ohh_rounds.specs.Play.{PlainPlay, rounds_said}
use Rattle.ohh_rounds.specs.HandContext.{PlainHandContext}
use Rattle.ohh_reading.specs.Sizes.{sizes_of}

-- what is needed to read the rounds of a hand
abbrev pub setting_of : Dialect → ℕ → PlainFront → PlainHandContext
setting_of dialect file_moves front =
    record {
      ids = ids_of front.players;
      table =
          record {
            stacks = stacks_of front.players;
            small_blind = front.blinds.small;
            big_blind = front.blinds.big;
          };
      hole_cards = (game_of front.code).hole;
      dialect = dialect;
      file_moves = file_moves;
    }

-- the hand made of its parts
abbrev pub hand_of : PlainFront → PlainPlay → PlainPaid → SaidNotes → PlainHand
hand_of front play paid notes =
    record {
      setup =
          record {
            code = front.code;
            stacks = stacks_of front.players;
            antes = play.stakes.antes;
            dead_antes = play.stakes.dead_antes;
            blinds = play.stakes.blinds;
            sizes = sizes_of front.code front.blinds.big;
          };
      rakes = paid.rakes;
      rules = history_rules;
      script = play.script;
      stated = record { finish = None; wins = paid.wins; pot_total = paid.total; values = None };
      notes = notes;
    }

-- the hand at this place of its file, from 0, after this number of moves of the file; and the moves
-- of the file after it
unfoldable pub hand_said : Dialect → ℕ → ℕ → Data → Result (PlainHand × ℕ) MemberFault
hand_said dialect file_moves place ohh = do
  front ← front_said ohh
  play ← rounds_said (setting_of dialect file_moves front) ohh
  paid ← pots_said (ids_of front.players) ohh
  notes ← notes_said place front.players ohh
  Ok (hand_of front play paid notes, play.file_moves)
