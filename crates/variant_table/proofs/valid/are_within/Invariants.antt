use Rattle.std.proofs.Common.{ℕ, ◌≤◌, ◌<◌, IsTrue, slice_index}
use Rattle.variant_table.proofs.valid.are_within.Given as goal

abbrev pub invariant-loop-index : goal.invariant-loop-index
invariant-loop-index l = IsTrue l.within → (k : ℕ) → k < l.index → slice_index l.row.amounts k ≤ slice_index l.other.amounts k
