use Rattle.std.proofs.Common.{◌≡◌, ℕ, suc, ◌<◌, slice_index}
use Rattle.phh_reading.proofs.table.lines_len.Given as goal

-- no line so far but the first begins with a bracket
abbrev pub invariant-loop-at : goal.invariant-loop-at
invariant-loop-at l = (k : ℕ) → suc k < l.at → slice_index l.bytes (suc k) ≡ 91 → slice_index l.bytes k ≡ 10 → ⊥
