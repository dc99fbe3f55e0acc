use Rattle.std.proofs.Common.{◌≡◌, ◌++◌, take}
use Rattle.hand_order.specs.Heights.{heights_of}
use Rattle.low_rank.proofs.razz.joined.Given as goal

-- the other heights so far come after the first
abbrev pub invariant-loop-height : goal.invariant-loop-height
invariant-loop-height l = heights_of l.row ≡ heights_of l.first ++ take l.height-index l.height-items
