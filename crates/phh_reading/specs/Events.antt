-- The events of actions, counted, with the numbers of their actions.
use Rattle.std.specs.Prelude.{◌≡◌, ℕ, ◌+◌, ◌≤◌, Bool, not, cond, map, count_by, nat_le, if◌then◌else◌, List, [], ◌∷◌, Option, Some, None, Result, Ok, Err}
use Rattle.toml.specs.Data.{Data}
use Rattle.first_fault.specs.declared.limits.Quantity.TheVariants as quantities
use Rattle.play_event.specs.declared.hand_limits.TheConstants.{MOST_MOVES, MOST_OTHER_EVENTS}
use Rattle.play_event.specs.PlayedScript.{is_move_event}
use Rattle.first_fault.specs.declared.limits.TheConstants.{MOST_FILE_MOVES}
use Rattle.play_event.specs.declared.event.Event.{Event}
use Rattle.play_event.specs.Said.{Said, Numbered, numbered, said_of}
use Rattle.first_fault.specs.Reading.{◌>>=◌, thread_from}
use Rattle.phh_actions.specs.declared.fault.ActionFault.{ActionFault}
use Rattle.phh_actions.specs.declared.fault.ActionFault.TheVariants as actions
use Rattle.phh_actions.specs.Action.{action_said}
use Rattle.phh_reading.specs.declared.field_fault.FieldKey.TheVariants as keys
use Rattle.phh_reading.specs.declared.field_fault.FieldFaultKind.{FieldFaultKind}
use Rattle.phh_reading.specs.declared.field_fault.FieldFaultKind.TheVariants as whats
use Rattle.phh_reading.specs.declared.field_fault.FieldLocation.{FieldLocation}
use Rattle.phh_reading.specs.declared.field_fault.FieldFault.{FieldFault}
use Rattle.phh_reading.specs.Fields.{item_place, wrong, text_said}
use Rattle.phh_reading.specs.declared.events.EventCounts.{EventCounts}
use Rattle.first_fault.specs.Numbers.{saturated}

-- the counts before the first action of a hand, after this number of moves of the file
abbrev pub counts_after : ℕ → EventCounts
counts_after file_moves = record { moves = 0; other_events = 0; file_moves = file_moves }

-- no count exceeds its limit
pub record AreFew (counts : EventCounts) : Type 0 where
  pub moves : counts.moves ≤ MOST_MOVES
  pub other_events : counts.other_events ≤ MOST_OTHER_EVENTS
  pub file_moves : counts.file_moves ≤ MOST_FILE_MOVES

-- the counts after one more event, which is a move or not
pub record IsOneMore (before : EventCounts) (is_one : Bool) (after : EventCounts) : Type 0 where
  pub moves : after.moves ≡ before.moves + cond is_one 1 0
  pub other_events : after.other_events ≡ before.other_events + cond is_one 0 1
  pub file_moves : after.file_moves ≡ before.file_moves + cond is_one 1 0

-- the counts after the event of an action, if it has one
abbrev pub IsAfter : EventCounts → Option Event → EventCounts → Type 0
IsAfter before None after = after ≡ before
IsAfter before (Some event) after = IsOneMore before (is_move_event (said_of event)) after

-- the counts after a hand's first events; the file had this number of moves before the hand
pub record AreCounted (earlier : ℕ) (script : List Event) (counts : EventCounts) : Type 0 where
  pub moves : counts.moves ≡ count_by is_move_event (map said_of script)
  pub other_events :
      counts.other_events ≡ count_by (λ event. not (is_move_event event)) (map said_of script)
  pub file_moves : counts.file_moves ≡ earlier + count_by is_move_event (map said_of script)

-- an event, if there is one
abbrev pub one_event : Option Event → List Event
one_event (Some event) = event ∷ []
one_event None = []

-- the event of an action, if it has one
abbrev pub listed_event : Option Event → List Numbered
listed_event (Some event) = numbered event ∷ []
listed_event None = []

-- the counts after one more event, each within its limit
unfoldable pub counted : EventCounts → FieldLocation → Bool → Result EventCounts FieldFault
counted counts place moves =
    if moves
    then (if nat_le MOST_MOVES counts.moves then wrong (whats.TooMany quantities.Moves) place
    else if nat_le MOST_FILE_MOVES counts.file_moves
    then wrong (whats.TooMany quantities.FileMoves) place
    else Ok
    (record {
      moves = counts.moves + 1;
      other_events = counts.other_events;
      file_moves = counts.file_moves + 1;
    }))
    else (if nat_le MOST_OTHER_EVENTS counts.other_events
    then wrong (whats.TooMany quantities.OtherEvents) place
    else Ok
    (record {
      moves = counts.moves;
      other_events = counts.other_events + 1;
      file_moves = counts.file_moves;
    }))

-- what an action adds: no event, or one event that is counted
unfoldable pub added : EventCounts → ℕ → Option Said
    → Result (List Numbered × EventCounts) FieldFault
added counts n None = Ok ([], counts)
added counts n (Some event) =
    counted counts (item_place keys.Actions n) (is_move_event event)
    >>= λ next. Ok ((saturated n, event) ∷ [], next)

-- what is wrong with an action
abbrev pub action_fault : ActionFault → FieldFaultKind
action_fault actions.BadAction = whats.BadAction
action_fault actions.AmountNotWhole = whats.AmountNotWhole
action_fault actions.AmountLimit = whats.AmountLimit

-- a fault of an action at its place
abbrev pub at_location : {A : Type 0} → FieldLocation → Result A ActionFault → Result A FieldFault
at_location place (Ok x) = Ok x
at_location place (Err fault) = wrong (action_fault fault) place

-- an action
unfoldable pub event_said : ℕ → EventCounts → ℕ → Data
    → Result (List Numbered × EventCounts) FieldFault
event_said seats counts n value = do
  text ← text_said (item_place keys.Actions n) value
  event ← at_location (item_place keys.Actions n) (action_said seats text)
  added counts n event

-- the actions in order
abbrev pub events_said : ℕ → EventCounts → List Data
    → Result (List Numbered × EventCounts) FieldFault
events_said seats counts items = thread_from (event_said seats) counts 1 items
