use Rattle.std.proofs.Common.{◌≡◌, ℕ, ◌+◌, ◌<◌, ◌≤◌, length, map, take, drop, slice_index}
use Rattle.toml.specs.View.{view}
use Rattle.first_fault.specs.Reading.{each_from}
use Rattle.first_fault.proofs.EachItem.{with_front}
use Rattle.hand_canon.specs.AllowedNotes.{IsWithin}
use Rattle.phh_reading.specs.declared.field_fault.FieldKey.TheVariants as keys
use Rattle.phh_reading.specs.Fields.{item_place, number_said}
use Rattle.phh_reading.specs.NoteFields.{numbers_from}
use Rattle.phh_reading.proofs.seating.fill_numbers.Given as goal

-- the numbers so far and those of the values that are left are all of them, and after those so far
-- come zeros
abbrev pub invariant-loop-index : goal.invariant-loop-index
invariant-loop-index l = record {
  ten : length l.numbers ≡ 10;
  each : (k : ℕ) → k < l.index → IsWithin 1 255 (slice_index l.numbers k);
  zeros : (k : ℕ) → l.index ≤ k → slice_index l.numbers k ≡ 0;
  read : with_front (take l.index l.numbers) (each_from (λ n value. number_said 1 255 (item_place keys.Seats n) value) (l.index + 1) (map view (drop l.index l.players.values.now))) ≡ numbers_from (map view l.players.values.now);
}
