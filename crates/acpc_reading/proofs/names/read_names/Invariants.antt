use Rattle.std.proofs.Common.{◌≡◌, ℕ, ◌+◌, ◌<◌, ◌≤◌, length, take, None, IfSome, slice_index_or}
use Rattle.hand_canon.specs.AllowedNotes.{IsName}
use Rattle.acpc_reading.specs.Left.{len_left, parts_left}
use Rattle.acpc_reading.specs.Names.{names_after, names_said}
use Rattle.acpc_reading.proofs.names.read_names.Given as goal

-- the names so far are written and no others, and with the rest of the field they are all names
abbrev pub invariant-loop-part : goal.invariant-loop-part
invariant-loop-part l = record {
  ten : length l.names ≡ 10;
  each : (k : ℕ) → k < l.index → IfSome (slice_index_or l.names k None) (IsName (k + 1));
  none : (k : ℕ) → l.index ≤ k → slice_index_or l.names k None ≡ None;
  count : l.index + length (parts_left 124 l.rest) ≡ l.fn.players.number;
  place_is : l.place + len_left l.rest ≡ l.at + 1 + length l.fn.text;
  read : names_after (take l.index l.names) (l.index + 1) l.place (parts_left 124 l.rest) ≡ names_said l.fn.players.number l.at l.fn.text;
}

abbrev pub decreases-loop-part : goal.decreases-loop-part
decreases-loop-part l = len_left l.rest
