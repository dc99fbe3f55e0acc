use Rattle.std.proofs.Common.{◌≡◌, ℕ, ◌<◌, get_or, false, eqb}
use Rattle.first_fault.proofs.words.position_of.Given as goal

-- no byte so far is the sign
abbrev pub invariant-loop-index : goal.invariant-loop-index
invariant-loop-index l = (k : ℕ) → k < l.index → eqb (get_or l.text k 0) l.sign ≡ false
