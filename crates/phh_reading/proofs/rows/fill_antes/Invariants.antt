use Rattle.std.proofs.Common.{◌≡◌, ℕ, ◌+◌, ◌-◌, ◌≤◌, length, map, take, drop, slice_index}
use Rattle.toml.specs.View.{view}
use Rattle.first_fault.specs.Reading.{each_from}
use Rattle.first_fault.proofs.EachItem.{with_front}
use Rattle.phh_reading.specs.declared.field_fault.FieldKey.TheVariants as keys
use Rattle.phh_reading.specs.Fields.{item_place}
use Rattle.phh_reading.specs.Rows.{ante_said, antes_from}
use Rattle.phh_reading.proofs.rows.fill_antes.Given as goal

-- the antes so far and those of the values that are left are all of them, and after those so far
-- come zeros
abbrev pub invariant-loop-index : goal.invariant-loop-index
invariant-loop-index l = record {
  ten : length l.amounts ≡ 10;
  most : (k : ℕ) → slice_index l.amounts k ≤ slice_index l.stacks.amounts k;
  zeros : (k : ℕ) → l.index ≤ k → slice_index l.amounts k ≡ 0;
  read : with_front (take l.index l.amounts) (each_from (λ n value. ante_said (slice_index l.stacks.amounts (n - 1)) (item_place keys.Antes n) value) (l.index + 1) (map view (drop l.index l.values))) ≡ antes_from l.stacks.amounts (map view l.values);
}
