use Rattle.std.proofs.Common.{ℕ, ◌<◌, ◌≤◌, get_or}
use Rattle.betting_numbers.proofs.caps.each_fits.Given as goal

abbrev pub invariant-loop-cap : goal.invariant-loop-cap
invariant-loop-cap l = (l.most ≤ 4294967295) × ((k : ℕ) → k < l.cap-index → get_or l.caps k 0 ≤ l.most)
