use Rattle.std.proofs.Common.{◌≡◌, ℕ, ◌+◌, ◌<◌, ◌≤◌, length, map, take, drop, slice_index}
use Rattle.toml.specs.View.{view}
use Rattle.first_fault.specs.Reading.{each_from}
use Rattle.first_fault.proofs.EachItem.{with_front}
use Rattle.phh_reading.specs.Fields.{item_place, amount_said}
use Rattle.phh_reading.specs.Rows.{amounts_said}
use Rattle.phh_reading.proofs.rows.read_amounts.Given as goal

-- the amounts so far and those of the values that are left are all of them, and after those so far
-- come zeros
abbrev pub invariant-loop-index : goal.invariant-loop-index
invariant-loop-index l = record {
  ten : length l.amounts ≡ 10;
  least : (k : ℕ) → k < l.index → l.least ≤ slice_index l.amounts k;
  most : (k : ℕ) → slice_index l.amounts k ≤ l.most;
  zeros : (k : ℕ) → l.index ≤ k → slice_index l.amounts k ≡ 0;
  read : with_front (take l.index l.amounts) (each_from (λ n value. amount_said l.least l.most (item_place l.key n) value) (l.index + 1) (map view (drop l.index l.players.values.now))) ≡ amounts_said l.least l.most l.key (map view l.players.values.now);
}
