use Rattle.std.proofs.Common.{◌≡◌, take}
use Rattle.hand_order.specs.Digits.{with_digits}
use Rattle.hand_order.proofs.ranks.number_of.Given as goal

-- the number has the digits so far
abbrev pub invariant-loop-digit : goal.invariant-loop-digit
invariant-loop-digit l = l.number ≡ with_digits 0 (take l.digit-index l.digits)
