use Rattle.std.proofs.Common.{ℕ, ◌≤◌, ◌<◌, IsTrue, slice_index}
use Rattle.variant_table.proofs.valid.are_few.Given as goal

abbrev pub invariant-loop-amount : goal.invariant-loop-amount
invariant-loop-amount l = IsTrue l.few → (k : ℕ) → k < l.amount-index → slice_index l.amounts k ≤ l.most
