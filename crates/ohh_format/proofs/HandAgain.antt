-- A hand that was written reads as that hand again.
use Rattle.std.proofs.Common.{◌≡◌, ℕ, ◌+◌, ◌<◌, ◌≤◌, Bool, true, false, cond, eqb, List, [], length, map, take, Option, Some, None, IfSome, unwrap_or, Ok, refl, ◌∙◌, arith}
use Rattle.std.specs.List.{flat_map}
use Rattle.std.proofs.lemmas.Bool.{ne_eqb}
use Rattle.std.proofs.lemmas.List.{length-map}
use Rattle.std.proofs.lemmas.List.FromFn.{length-range_with_len}
use Rattle.serde_json.specs.Data.{Data, object, string}
use Rattle.chip_ledger.specs.Seat.{seats_of}
use Rattle.play_event.specs.CanonScript.{plain_moves, showdown_said}
use Rattle.first_fault.specs.declared.limits.TheConstants.{MOST_FILE_MOVES, MOST_HANDS}
use Rattle.hand_canon.specs.AllowedNotes.{AreAllowed, AreSeatNumbers}
use Rattle.hand_canon.specs.TraceRows.{core_said}
use Rattle.hand_canon.specs.declared.notes.Notes.{Notes}
use Rattle.hand_canon.specs.declared.trace.Play.{Play}
use Rattle.hand_canon.specs.declared.trace.Trace.{Trace}
use Rattle.play_event.specs.Games.{game_of}
use Rattle.play_event.specs.Seats.{all_seats}
use Rattle.play_event.specs.ValidSetup.{IsValid}
use Rattle.play_event.specs.declared.setup.Setup.{Setup}
use Rattle.ohh_members.specs.declared.dialect.Dialect.{Dialect}
use Rattle.ohh_members.specs.declared.fault.Path.TheVariants as paths
use Rattle.ohh_members.specs.Header.{PlainFront, front_said}
use Rattle.ohh_members.specs.Players.{PlainPlayer, seated_said}
use Rattle.ohh_members.specs.Values.{list_said, member_at, required_value}
use Rattle.hand_canon.specs.declared.notes.Moment.{Moment}
use Rattle.ohh_writing.specs.Moment.{moment_of}
use Rattle.ohh_writing.specs.Rounds.{hand_rounds}
use Rattle.ohh_writing.specs.Seating.{is_circular, number_among, numbers_spelled}
use Rattle.ohh_writing.specs.Tree.{hand_members, round_trees, whole}
use Rattle.ohh_rounds.specs.AntesAndBlinds.{PlainAntesAndBlinds}
use Rattle.ohh_rounds.specs.Play.{rounds_said}
use Rattle.ohh_rounds.specs.Rounds.{rounds_listed, steps_said}
use Rattle.ohh_rounds.specs.HandContext.{PlainHandContext}
use Rattle.ohh_rounds.specs.Steps.{PlainStep, moves_in}
use Rattle.ohh_reading.specs.Hand.{hand_said, setting_of}
use Rattle.ohh_writing.specs.Actions.{posts}
use Rattle.ohh_format.specs.Again.{hand_again, numbered_from, script_again}
use Rattle.ohh_format.proofs.CardLists.{listed_again}
use Rattle.ohh_format.proofs.Circle.{IsCircle, long, said_circle, usual_circle}
use Rattle.ohh_format.proofs.EffectRounds.{round_of, rounds_are, rounds_of, rounds_read}
use Rattle.ohh_format.proofs.FrontAgain.{IsSpelledSetup, blinds_again, blinds_of, ids_are, sizes_again, stacks_are, table_is}
use Rattle.ohh_format.proofs.GameAgain.{game_again}
use Rattle.ohh_format.proofs.NotesAgain.{HasNotes, date_written, notes_read}
use Rattle.ohh_format.proofs.PlayAgain.{CanBePlayed, few_moves, rounds_fit, steps}
use Rattle.ohh_format.proofs.PostsAgain.{posts_again, stakes_again}
use Rattle.ohh_format.proofs.PotsAgain.{HasPots, pots_again}
use Rattle.ohh_format.proofs.ScriptAgain.{posts_read, script_read, showing_events}
use Rattle.ohh_format.proofs.SeatingAgain.{player_of, players_from, seated_read}
use Rattle.ohh_format.proofs.WinsAgain.{ids_written}
use Rattle.chip_ledger.specs.SeatRow.{amounts_in}
use Rattle.hand_canon.specs.Plays.{moves_written}

-- what the rounds of a hand are read with
abbrev pub hand_setting : Dialect → ℕ → Setup → PlainHandContext
hand_setting dialect file_moves setup =
    record {
      ids = ids_written setup.stacks.seats;
      table = record { stacks = amounts_in setup.stacks; small_blind = (blinds_of setup).small; big_blind = (blinds_of setup).big };
      hole_cards = (game_of setup.code).hole;
      dialect = dialect;
      file_moves = file_moves;
    }

-- a play reads back when it was written
pub record IsReadable (play : Play) : Type 0 where
  pub valid : IsValid play.trace.setup
  pub spelled : IsSpelledSetup play.trace.setup
  pub notes : AreAllowed play.trace.setup.stacks.seats play.hand.notes
  pub pots : HasPots play.trace
  pub can_be_played : (dialect : Dialect) (file_moves : ℕ) → file_moves + moves_written play ≤ MOST_FILE_MOVES → CanBePlayed (hand_setting dialect file_moves play.trace.setup) play.trace
  pub showdown : showdown_said play.trace.setup (core_said play.trace).places (plain_moves (core_said play.trace).moves) (core_said play.trace).shown ≡ flat_map (showing_events play.trace) (all_seats play.trace.setup)

-- numbers that are written go round, and there are as many as seats
pub circle_written : (count : ℕ) (notes : Notes) → 2 ≤ count → count ≤ 10 → AreAllowed count notes → IsCircle count (number_among (numbers_spelled count notes.seats))
circle_written count notes some few are = by_said notes.seats are.seats
  where
    by_said : (said : Option (List ℕ)) → IfSome said (AreSeatNumbers count) → IsCircle count (number_among (numbers_spelled count said))
    by_said None is = usual_circle count (omega (arith, some)) few
    by_said (Some numbers) is = by_round (is_circular (take count numbers)) refl
      where
        by_round : (goes : Bool) → is_circular (take count numbers) ≡ goes → IsCircle count (number_among (cond goes (Some numbers) None))
        by_round true e = said_circle count numbers some is e
        by_round false e = usual_circle count (omega (arith, some)) few

long_written : (count : ℕ) (notes : Notes) → 2 ≤ count → AreAllowed count notes → IfSome (numbers_spelled count notes.seats) (λ all. count ≤ length all)
long_written count notes some are = by_said notes.seats are.seats
  where
    by_said : (said : Option (List ℕ)) → IfSome said (AreSeatNumbers count) → IfSome (numbers_spelled count said) (λ all. count ≤ length all)
    by_said None is = tt
    by_said (Some numbers) is = by_round (is_circular (take count numbers))
      where
        by_round : (goes : Bool) → IfSome (cond goes (Some numbers) None) (λ all. count ≤ length all)
        by_round true = long count numbers some is
        by_round false = tt

module _ (dialect : Dialect) (place : ℕ) (play : Play) (is : IsReadable play) where
  abbrev trace : Trace
  trace = play.trace

  abbrev setup : Setup
  setup = play.trace.setup

  abbrev notes : Notes
  notes = play.hand.notes

  abbrev seats : ℕ
  seats = setup.stacks.seats

  abbrev numbers : Option (List ℕ)
  numbers = numbers_spelled seats notes.seats

  abbrev ohh : Data
  ohh = object (hand_members dialect place trace notes)

  abbrev players : List PlainPlayer
  players = players_from seats setup.stacks notes numbers 1 seats

  abbrev front : PlainFront
  front = record { code = setup.code; players = players; blinds = blinds_of setup }

  table_name : (found : Option Moment) → moment_of notes ≡ found → member_at paths.TableName ohh ≡ Some (string (unwrap_or notes.table []))
  table_name None e = rw e refl
  table_name (Some moment) e = rw e refl

  table_size : (found : Option Moment) → moment_of notes ≡ found → member_at paths.TableSize ohh ≡ Some (whole (unwrap_or notes.seat_count seats))
  table_size None e = rw e refl
  table_size (Some moment) e = rw e refl

  date : (found : Option Moment) → moment_of notes ≡ found → member_at paths.StartDate ohh ≡ date_written notes
  date None e = rw e refl
  date (Some moment) e = rw e refl

  has_notes : HasNotes place seats notes ohh
  has_notes =
      record {
        hand = refl;
        table = table_name (moment_of notes) refl;
        seat_count = table_size (moment_of notes) refl;
        date = date (moment_of notes) refl;
        currency = refl;
        venue = refl;
      }

  players_read : seated_said ohh ≡ Ok players
  players_read =
      seated_read seats setup.stacks notes numbers (circle_written seats notes setup.stacks.least setup.stacks.greatest is.notes) setup.stacks.greatest is.notes.names is.valid.stacks ohh refl setup.stacks.least refl refl

  front_read : front_said ohh ≡ Ok front
  unfolding front_said
  front_read = rw (game_again dialect place trace notes is.spelled.game, players_read, blinds_again setup is.valid is.spelled ohh refl refl refl) refl

  setting_is : (file_moves : ℕ) → setting_of dialect file_moves front ≡ hand_setting dialect file_moves setup
  setting_is file_moves = rw (ids_are seats setup.stacks notes numbers, stacks_are seats setup.stacks notes numbers refl) refl

  module _ (file_moves : ℕ) (few : file_moves + moves_written play ≤ MOST_FILE_MOVES) where
    abbrev setting : PlainHandContext
    setting = hand_setting dialect file_moves setup

    abbrev pub can : CanBePlayed setting trace
    can = is.can_be_played dialect file_moves few

    abbrev pub hand_steps : List PlainStep
    hand_steps = steps setting trace can

    listed_rounds : rounds_listed ohh ≡ Ok (round_trees 1 (map round_of (rounds_of dialect trace)))
    unfolding rounds_listed required_value list_said
    listed_rounds =
        let some : (eqb (length (round_trees 1 (map round_of (rounds_of dialect trace)))) 0) ≡ false = ne_eqb (length (round_trees 1 (map round_of (rounds_of dialect trace)))) 0 (λ none. omega (arith, none)) in
        rw (listed_again (round_trees 1 (hand_rounds dialect trace)), rounds_are dialect trace, some) refl

    steps_read : steps_said setting ohh ≡ Ok hand_steps
    unfolding steps_said
    steps_read = rw (listed_rounds, rounds_read setting None [] 1 1 0 (rounds_of dialect trace) (rounds_fit setting trace can)) refl

    stakes : PlainAntesAndBlinds
    stakes = record { antes = amounts_in setup.antes; dead_antes = setup.dead_antes; blinds = amounts_in setup.blinds }

    play_read : rounds_said setting ohh ≡ Ok (record { stakes = stakes; script = numbered_from (length (posts setup) + 1) (script_again dialect trace); file_moves = file_moves + moves_in hand_steps })
    unfolding rounds_said stakes
    play_read =
        let table = table_is setup is.valid is.spelled in
        rw (
          steps_read,
          posts_read setting trace can is.showdown,
          posts_again setup setting.table table,
          stakes_again setup setting.table table,
          script_read setting trace can is.showdown (length (amounts_in setup.stacks)) table.count,
        ) refl

    -- the hand reads back
    pub hand_read : place < MOST_HANDS → hand_said dialect file_moves place ohh ≡ Ok (hand_again dialect place play, file_moves + moves_in hand_steps)
    unfolding hand_said stakes
    hand_read within =
        let many : length players ≡ seats = length-map (seats_of seats) (player_of seats setup.stacks notes numbers) ∙ length-range_with_len 1 seats in
        rw (
          front_read,
          setting_is file_moves,
          play_read,
          ids_are seats setup.stacks notes numbers,
          pots_again trace is.pots ohh refl,
          notes_read place seats setup.stacks notes ohh within setup.stacks.least setup.stacks.greatest is.notes has_notes (long_written seats notes setup.stacks.least is.notes) seats refl many,
          stacks_are seats setup.stacks notes numbers refl,
          sizes_again setup is.valid is.spelled,
        ) refl

    -- no more moves are read than were made
    pub counted : moves_in hand_steps ≤ moves_written play
    counted = few_moves setting trace can
