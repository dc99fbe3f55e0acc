-- A hand: its fields are read in this order.
use Rattle.std.specs.Prelude.{ℕ, List, length, replicate, Option, Some, None, Result, Ok}
use Rattle.toml.specs.Data.{Members}
use Rattle.chip_ledger.specs.declared.seat_row.TheConstants.{MOST_AMOUNT}
use Rattle.hand_canon.specs.PlainHands.{PlainHand, PlainStated}
use Rattle.play_event.specs.HistoryRules.{history_rules}
use Rattle.first_fault.specs.Reading.{◌>>=◌, read_if}
use Rattle.phh_reading.specs.declared.field_fault.FieldKey.TheVariants as keys
use Rattle.phh_reading.specs.declared.field_fault.FieldFault.{FieldFault}
use Rattle.phh_reading.specs.Fields.{key_place, field_value, required_value, list_said}
use Rattle.phh_reading.specs.Rows.{row_said, rakes_said}
use Rattle.phh_reading.specs.SetupFields.{setup_said}
use Rattle.phh_reading.specs.NoteFields.{notes_said}
use Rattle.phh_reading.specs.Events.{counts_after, events_said}

-- finishing stacks are all that is stated
abbrev pub finish_stated : Option (List ℕ) → PlainStated
finish_stated finish = record { finish = finish; wins = None; pot_total = None; values = None }

-- the rakes; 0 if the field is missing
unfoldable pub rakes_at : Members → Result (List ℕ) FieldFault
rakes_at members =
    elim (field_value keys.Rakes members)
    [ Some value ↦ rakes_said value | None ↦ Ok (replicate 11 0) ]

-- the hand at this place of its file, from 0, after this number of moves of the file; and the moves
-- of the file after it
unfoldable pub hand_said : ℕ → ℕ → Members → Result (PlainHand × ℕ) FieldFault
hand_said file_moves place members = do
  setup ← setup_said members
  actions ← required_value keys.Actions members >>= list_said (key_place keys.Actions)
  events ← events_said (length setup.stacks) (counts_after file_moves) actions
  finish ← read_if (row_said (length setup.stacks) MOST_AMOUNT keys.FinishingStacks)
      (field_value keys.FinishingStacks members)
  rakes ← rakes_at members
  notes ← notes_said place (length setup.stacks) members
  let hand : PlainHand =
      record {
        setup = setup;
        rakes = rakes;
        rules = history_rules;
        script = events.0;
        stated = finish_stated finish;
        notes = notes;
      }
  Ok (hand, events.1.file_moves)
