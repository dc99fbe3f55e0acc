use Rattle.std.proofs.Common.{◌≡◌, ℕ, ◌+◌, ◌≤◌, length, map, take, drop, slice_index}
use Rattle.toml.specs.View.{view}
use Rattle.first_fault.specs.Reading.{each_from}
use Rattle.first_fault.proofs.EachItem.{with_front}
use Rattle.chip_ledger.specs.declared.seat_row.TheConstants.{MOST_AMOUNT}
use Rattle.phh_reading.specs.declared.field_fault.FieldKey.TheVariants as keys
use Rattle.phh_reading.specs.Fields.{item_place, amount_said}
use Rattle.phh_reading.specs.Rows.{amounts_said}
use Rattle.phh_reading.proofs.rows.read_each_rake.Given as goal

-- the rakes so far and those of the values that are left are all of them, and after those so far
-- come zeros
abbrev pub invariant-loop-index : goal.invariant-loop-index
invariant-loop-index l = record {
  eleven : length l.rakes ≡ 11;
  most : (k : ℕ) → slice_index l.rakes k ≤ MOST_AMOUNT;
  zeros : (k : ℕ) → l.index ≤ k → slice_index l.rakes k ≡ 0;
  read : with_front (take l.index l.rakes) (each_from (λ n value. amount_said 0 MOST_AMOUNT (item_place keys.Rakes n) value) (l.index + 1) (map view (drop l.index l.values))) ≡ amounts_said 0 MOST_AMOUNT keys.Rakes (map view l.values);
}
