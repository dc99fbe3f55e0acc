use Rattle.std.proofs.Common.{◌≡◌, ℕ, ◌<◌, get_or, true, eqb}
use Rattle.phh_reading.proofs.order.zeros.Given as goal

-- the characters so far are zeros
abbrev pub invariant-loop-index : goal.invariant-loop-index
invariant-loop-index l = (k : ℕ) → k < l.index → eqb (get_or l.key k 0) 48 ≡ true
