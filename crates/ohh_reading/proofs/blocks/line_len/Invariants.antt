use Rattle.std.proofs.Common.{◌≡◌, ℕ, ◌<◌, get_or, false, eqb}
use Rattle.ohh_reading.proofs.blocks.line_len.Given as goal

-- no character so far ends the line
abbrev pub invariant-loop-index : goal.invariant-loop-index
invariant-loop-index l = (k : ℕ) → k < l.index → eqb (get_or l.text k 0) 10 ≡ false
