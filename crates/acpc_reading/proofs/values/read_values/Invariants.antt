use Rattle.std.proofs.Common.{◌≡◌, ℕ, ◌+◌, ◌≤◌, length, take, pos, slice_index_or}
use Rattle.acpc_reading.specs.Left.{len_left, parts_left}
use Rattle.acpc_reading.specs.Values.{values_after, values_said}
use Rattle.acpc_reading.proofs.values.read_values.Given as goal

-- the values so far are written, followed by zeros, and with the rest of the field they are all
-- values
abbrev pub invariant-loop-part : goal.invariant-loop-part
invariant-loop-part l = record {
  ten : length l.nets ≡ 10;
  zeros : (k : ℕ) → l.index ≤ k → slice_index_or l.nets k (pos 0) ≡ pos 0;
  count : l.index + length (parts_left 124 l.rest) ≡ l.fn.players.number;
  place_is : l.place + len_left l.rest ≡ l.at + 1 + length l.fn.text;
  read : values_after (take l.index l.nets) l.place (parts_left 124 l.rest) ≡ values_said l.fn.players.number l.at l.fn.text;
}

abbrev pub decreases-loop-part : goal.decreases-loop-part
decreases-loop-part l = len_left l.rest
