use Rattle.std.proofs.Common.{◌≡◌, ◌-◌, ◌++◌, take, replicate}
use Rattle.ohh_reading.proofs.moment.nine.Given as goal

-- the digits so far, and zeros after them
abbrev pub invariant-loop-index : goal.invariant-loop-index
invariant-loop-index l = l.nine ≡ take l.index l.digits ++ replicate (9 - l.index) 48
