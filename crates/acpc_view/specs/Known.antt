-- What a seat can know before a move: its own cards, the moves so far, and the boards dealt by
-- then.
use Rattle.std.specs.Prelude.{◌≡◌, ◌<◌, ◌≤◌, ℕ, if◌then◌else◌, List, take, length, Option, Some, None}
use Rattle.card_set.specs.declared.card.Slot.{Slot}
use Rattle.acpc_format.specs.Names.{hand_text}
use Rattle.acpc_format.specs.Rounds.{has_board}
use Rattle.play_event.specs.CanonScript.{dealt_slots}
use Rattle.play_event.specs.TraceCore.{TraceCore}
use Rattle.hand_canon.specs.TraceRows.{core_said}
use Rattle.hand_canon.specs.declared.trace.Play.{Play}
use Rattle.acpc_view.specs.View.{has_begun}

-- the board of a street, if the trace has it
abbrev pub board_of : TraceCore → ℕ → Option (List Slot)
board_of trace street =
    if has_board trace.places street then Some (dealt_slots trace.places None street) else None

-- the board of a street, if the trace has it and its round has begun before the move at an index
abbrev pub board_begun : TraceCore → ℕ → ℕ → Option (List Slot)
board_begun trace index street =
    if has_begun trace.moves index street then board_of trace street else None

-- Two plays look the same to a seat before the move at an index. Neither is over there; the other
-- seats' cards and everything later may differ.
pub record AreAlikeTo (viewer place index : ℕ) (one other : Play) : Type 0 where
  -- both have that move
  pub goes_on : index < length one.trace.moves
  pub other_goes_on : index < length other.trace.moves
  -- they have the same setup, which is that of the game
  pub setup : one.trace.setup ≡ other.trace.setup
  -- they have the same hand number
  pub hand : hand_text place one.hand.notes.hand ≡ hand_text place other.hand.notes.hand
  -- the seat has the same hole cards
  pub cards : dealt_slots (core_said one.trace).places (Some viewer) 1
      ≡ dealt_slots (core_said other.trace).places (Some viewer) 1
  -- the moves so far are the same
  pub moves : take index (core_said one.trace).moves ≡ take index (core_said other.trace).moves
  -- the boards of the rounds that have begun are the same
  pub boards : (street : ℕ) → 2 ≤ street → street ≤ 4
      → board_begun (core_said one.trace) index street
      ≡ board_begun (core_said other.trace) index street
