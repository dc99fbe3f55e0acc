use Rattle.std.proofs.Common.{◌≡◌, ℕ, ◌+◌, ◌<◌, ◌≤◌, None, IfSome, length, map, take, drop, slice_index_or}
use Rattle.toml.specs.View.{view}
use Rattle.first_fault.specs.Reading.{each_from}
use Rattle.first_fault.proofs.EachItem.{with_front}
use Rattle.hand_canon.specs.AllowedNotes.{IsName}
use Rattle.phh_reading.specs.declared.field_fault.FieldKey.TheVariants as keys
use Rattle.phh_reading.specs.Fields.{item_place}
use Rattle.phh_reading.specs.NoteFields.{names_from, text_note_said}
use Rattle.phh_reading.proofs.seating.fill_names.Given as goal
use Rattle.chip_ledger.specs.SeatsSaid.{default_name}

-- the names so far and those of the values that are left are all of them, and there are none after
-- those so far
abbrev pub invariant-loop-index : goal.invariant-loop-index
invariant-loop-index l = record {
  ten : length l.names ≡ 10;
  each : (k : ℕ) → k < l.index → IfSome (slice_index_or l.names k None) (IsName (k + 1));
  none : (k : ℕ) → l.index ≤ k → slice_index_or l.names k None ≡ None;
  read : with_front (take l.index l.names) (each_from (λ n value. text_note_said (default_name n) (item_place keys.Players n) value) (l.index + 1) (map view (drop l.index l.players.values.now))) ≡ names_from (map view l.players.values.now);
}
