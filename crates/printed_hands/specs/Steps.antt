-- The steps of a hand: what each event did, and the chips that each seat has left and has put in
-- after it.
use Rattle.std.specs.Prelude.{◌≡◌, ℕ, ◌≤◌, ◌+◌, ◌-◌, List, [], ◌∷◌, ◌++◌, length, map, reverse, take, codes}
use Rattle.std.specs.Fmt.{decimal}
use Rattle.chip_ledger.specs.SeatRow.{amount_of}
use Rattle.chip_ledger.specs.declared.seat_row.SeatRow.{SeatRow}
use Rattle.chip_ledger.specs.declared.seat_row.TheConstants.{MOST_AMOUNT}
use Rattle.play_event.specs.CanonScript.{move_named}
use Rattle.hand_canon.specs.SoundRecord.{script_said}
use Rattle.hand_canon.specs.declared.record.Record.{Record}
use Rattle.hand_canon.specs.declared.trace.Play.{Play}
use Rattle.phh_actions.specs.Written.{event_text}
use Rattle.play_event.specs.Chips.{chips_left, chips_put}
use Rattle.play_event.specs.Code.{code_text}
use Rattle.play_event.specs.Laws.{AreLegal}
use Rattle.play_event.specs.Past as past
use Rattle.play_event.specs.Past.{Move, Past, Resolved, moves_of}
use Rattle.play_event.specs.Played.{move_said}
use Rattle.play_event.specs.Said.{Board, Discard, Hole, Muck, Said, Show}
use Rattle.play_event.specs.Scripts.{past_after, past_at_end}
use Rattle.play_event.specs.Seats.{all_seats}
use Rattle.play_event.specs.Trace.{traced_moves}
use Rattle.play_event.specs.declared.played.Move as rows
use Rattle.play_event.specs.declared.setup.Setup.{Setup}
use Rattle.printed_hands.specs.Ending.{ending_lines}
use Rattle.chip_ledger.specs.AmountTexts.{spaced}

-- an event as it took place: a move with its player named and its target given, and cards as the
-- script has them
abbrev pub event_named : Resolved → Said
event_named (past.Dealt street seat slots) = Hole seat slots
event_named (past.Boarded street cards) = Board cards
event_named (past.Moved move) = move_named move
event_named (past.Discarded street seat slots) = Discard seat slots
event_named (past.Shown street seat cards) = Show seat cards
event_named (past.Mucked street seat) = Muck seat

-- the chips after these moves, the newest first: what each seat has left, and what each has put in
abbrev pub chips_text : Setup → List Move → List ℕ
chips_text setup moves =
    codes " | stacks" ++ (spaced (map (chips_left setup moves) (all_seats setup))
    ++ (codes " | in" ++ (spaced (map (chips_put setup moves) (all_seats setup)) ++ codes "\n")))

-- a row has what each seat has put in after these moves
pub record HasPut (setup : Setup) (moves : List Move) (put : SeatRow) : Type 0 where
  pub seats : put.seats ≡ setup.stacks.seats
  pub amounts : (n : ℕ) → 1 ≤ n → n ≤ setup.stacks.seats → amount_of put n ≡ chips_put setup moves n

-- the chips of a move fit into the row, if its seat is one of the row
abbrev pub MayAdd : rows.Move → SeatRow → Type 0
MayAdd moved put =
    moved.seat.number ≤ put.seats
    → amount_of put moved.seat.number + (moved.to - moved.from) ≤ MOST_AMOUNT

-- the line of the event with this number; these are the moves after it
abbrev pub step_line : Setup → ℕ → Resolved → List Move → List ℕ
step_line setup number event moves =
    decimal number ++ (32 ∷ event_text (event_named event) ++ chips_text setup moves)

-- the lines of a past, the oldest event first, with number 1
unfoldable pub step_lines : Setup → Past → List ℕ
step_lines setup [] = []
step_lines setup (event ∷ before) =
    step_lines setup before ++ step_line setup (length before + 1) event (moves_of (event ∷ before))

-- the first two lines of a hand: its number and its game, and what is posted
abbrev pub head_lines : ℕ → Setup → List ℕ
head_lines number setup =
    codes "hand "
    ++ (decimal number
    ++ (32 ∷ code_text setup.code ++ (codes "\n0 posts" ++ chips_text setup [])))

-- the lines of the first events of a hand, this number of them
abbrev pub steps_before : Record → ℕ → List ℕ
steps_before hand events = step_lines hand.setup (past_after hand.setup (script_said hand) events)

-- the lines of a hand up to the event with this number, from 0, and without it
abbrev pub begun_lines : ℕ → Record → ℕ → List ℕ
begun_lines number hand events = head_lines number hand.setup ++ steps_before hand events

-- the first events of a hand, this number of them, are legal, and these are their moves
pub record AreMovesBefore (hand : Record) (events : ℕ) (moves : List rows.Move) : Type 0 where
  pub there : events ≤ length hand.script
  pub legal : AreLegal hand.setup hand.rules (reverse (take events (script_said hand)))
  pub are : map move_said moves
      ≡ traced_moves hand.setup (moves_of (past_after hand.setup (script_said hand) events))

-- the lines of a hand
abbrev pub replay_lines : ℕ → Play → List ℕ
replay_lines number play =
    head_lines number play.hand.setup
    ++ (step_lines play.hand.setup (past_at_end play.hand.setup (script_said play.hand))
    ++ ending_lines play.trace)
