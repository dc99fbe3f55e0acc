-- The hands that are read back from plays that were written: the same setups and rakes, the
-- canonical scripts in the words of the format, what each seat won and the total of the pots, and
-- the kept notes.
use Rattle.std.specs.Prelude.{ℕ, ◌+◌, ◌-◌, ◌==◌, Bool, true, false, if◌then◌else◌, List, [], ◌∷◌, ◌++◌, length, map, slice_index_or, take, Some, None, option_and_then, option_map, codes}
use Rattle.std.specs.List.{flat_map}
use Rattle.chip_ledger.specs.Seat.{seats_of}
use Rattle.play_event.specs.declared.event.Spelled.{Spelled}
use Rattle.play_event.specs.declared.event.Spelled.TheVariants as spelled
use Rattle.play_event.specs.declared.setup.Setup.{Setup}
use Rattle.play_event.specs.HistoryRules.{history_rules}
use Rattle.play_event.specs.Past.{Act, BroughtIn, Called, Folded, Raised}
use Rattle.play_event.specs.Said as said
use Rattle.play_event.specs.Said.{Numbered, Said}
use Rattle.play_event.specs.Seats.{all_seats}
use Rattle.play_event.specs.Trace.{TracedMove, TracedPlace}
use Rattle.play_event.specs.CanonScript.{deals_said, plain_moves, showdown_said}
use Rattle.hand_canon.specs.Agreement.{pot_total_of, win_of}
use Rattle.hand_canon.specs.TraceRows.{core_said}
use Rattle.hand_canon.specs.declared.notes.Notes.{Notes}
use Rattle.hand_canon.specs.declared.trace.Play.{Play}
use Rattle.hand_canon.specs.declared.trace.Trace.{Trace}
use Rattle.ohh_members.specs.declared.dialect.Dialect.{Dialect}
use Rattle.ohh_members.specs.declared.dialect.Dialect.TheVariants as dialects
use Rattle.ohh_writing.specs.Actions.{has_known_card, posts}
use Rattle.ohh_writing.specs.Moment.{moment_of}
use Rattle.ohh_writing.specs.Seating.{numbers_spelled}
use Rattle.first_fault.specs.Numbers.{saturated}
use Rattle.hand_canon.specs.AllowedNotes.{non_default_seats}
use Rattle.hand_canon.specs.NoteTable.{texts_of}
use Rattle.hand_canon.specs.PlainHands.{PlainHand, plain_setup}
use Rattle.hand_canon.specs.SaidNotes.{SaidNotes, hand_name_noted}

-- ---- moves

-- a raise in a dialect: by the chips that it adds, or by the bet on the street that it raises to
abbrev pub raise_by_dialect : Dialect → TracedMove → Spelled
raise_by_dialect dialects.Added move = spelled.Added (move.to - move.from)
raise_by_dialect dialects.To move = spelled.To move.to

-- a bet by the chips that it adds, if nobody had put in chips on the street, else a raise
abbrev pub raise_again : Dialect → TracedMove → Spelled
raise_again dialect move =
    if move.price == 0 then spelled.Added (move.to - move.from) else raise_by_dialect dialect move

-- A move by its act, as the format writes it: a call states the chips that it adds. A bring-in has
-- no word, and no game that can be written has one.
abbrev pub move_again : Dialect → Act → TracedMove → List Said
move_again dialect Folded move = said.Fold (Some move.seat) ∷ []
move_again dialect Called move = said.Call (Some move.seat) (Some (move.to - move.from)) ∷ []
move_again dialect Raised move = said.Raise (Some move.seat) (raise_again dialect move) ∷ []
move_again dialect BroughtIn move = []

-- a move, if it is on the street
abbrev pub move_on : Dialect → ℕ → TracedMove → List Said
move_on dialect street move = if move.street == street then move_again dialect move.act move else []

-- the moves of a street, the oldest first
abbrev pub moves_again : Dialect → List TracedMove → ℕ → List Said
moves_again dialect moves street = flat_map (move_on dialect street) moves

-- ---- the script

-- one street of the canonical script: its deals, and its moves as the format writes them
abbrev pub street_again : Dialect → Setup → List TracedPlace → List TracedMove → ℕ → List Said
street_again dialect setup placed moves street =
    deals_said setup placed street ++ moves_again dialect moves street

-- the canonical script of a game of four streets without draws, with the moves as the format writes
-- them
abbrev pub script_again : Dialect → Trace → List Said
script_again dialect trace =
    flat_map (street_again dialect trace.setup (core_said trace).places (core_said trace).moves)
    (1 ∷ 2 ∷ 3 ∷ 4 ∷ [])
    ++ showdown_said trace.setup (core_said trace).places (plain_moves (core_said trace).moves)
    (core_said trace).shown

-- an action of the format has the event: the board is dealt by a round instead, and hole cards that
-- are all unknown are left out
abbrev pub has_action : Said → Bool
has_action (said.Hole seat slots) = has_known_card slots
has_action (said.Board cards) = false
has_action (said.Fold actor) = true
has_action (said.Call actor stated) = true
has_action (said.Raise actor amount) = true
has_action (said.BringIn actor) = true
has_action (said.Discard seat slots) = true
has_action (said.Show seat cards) = true
has_action (said.Muck seat) = true

-- events with the numbers of their actions; the first has this number, and an event without an
-- action has 0
abbrev pub numbered_from : ℕ → List Said → List Numbered
numbered_from n [] = []
numbered_from n (event ∷ rest) =
    if has_action event
    then (saturated n, event) ∷ numbered_from (n + 1) rest
    else (0, event) ∷ numbered_from n rest

-- ---- notes

-- The kept notes of a hand with this number of seats, at a place of the file: numbers of seats that
-- go round the table once, and a complete moment in the zone UTC.
abbrev pub notes_again : ℕ → ℕ → Notes → SaidNotes
notes_again place count notes =
    record {
      names = map (λ seat. slice_index_or notes.names (seat - 1) None) (seats_of count);
      seats =
          option_and_then (λ numbers. non_default_seats count (take count numbers))
          (numbers_spelled count notes.seats);
      seat_count = notes.seat_count;
      hand = hand_name_noted place notes.hand;
      texts = texts_of notes;
      year = option_map (λ moment. moment.day.year) (moment_of notes);
      month = option_map (λ moment. moment.day.month) (moment_of notes);
      day = option_map (λ moment. moment.day.day) (moment_of notes);
      time = option_map (λ moment. moment.time) (moment_of notes);
      zone = option_map (λ moment. codes "UTC") (moment_of notes);
    }

-- ---- the hands

-- the hand that is read back from the play at this place of its file, from 0; its posts are the
-- first actions
abbrev pub hand_again : Dialect → ℕ → Play → PlainHand
hand_again dialect place play =
    record {
      setup = plain_setup play.trace.setup;
      rakes = play.trace.setup.rakes.rakes;
      rules = history_rules;
      script =
          numbered_from (length (posts play.trace.setup) + 1) (script_again dialect play.trace);
      stated = record {
        finish = None;
        wins = Some (map (win_of play.trace) (all_seats play.trace.setup));
        pot_total = Some (pot_total_of play.trace);
        values = None;
      };
      notes = notes_again place play.trace.setup.stacks.seats play.hand.notes;
    }

-- the hands that are read back from plays; the first is at this place
abbrev pub hands_again : Dialect → ℕ → List Play → List PlainHand
hands_again dialect place [] = []
hands_again dialect place (play ∷ rest) =
    hand_again dialect place play ∷ hands_again dialect (place + 1) rest
