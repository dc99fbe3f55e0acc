use Rattle.std.proofs.Common.{◌≡◌, ℕ, ◌<◌, get_or, true}
use Rattle.std.specs.Char.{is_digit}
use Rattle.ohh_reading.proofs.moment.count_leading_digits.Given as goal

-- the characters so far are digits
abbrev pub invariant-loop-index : goal.invariant-loop-index
invariant-loop-index l = (k : ℕ) → k < l.index → is_digit (get_or l.text k 0) 10 ≡ true
