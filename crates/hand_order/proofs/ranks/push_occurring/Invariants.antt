use Rattle.std.proofs.Common.{◌≡◌, ◌++◌}
use Rattle.card_set.specs.Row.{cards_of}
use Rattle.hand_order.specs.Height.{height_with}
use Rattle.hand_order.specs.Heights.{heights_of}
use Rattle.hand_order.proofs.RankDigits.{occurring_first}
use Rattle.hand_order.proofs.ranks.push_occurring.Given as goal

-- the heights so far that occur this number of times come after the others
abbrev pub invariant-loop-height : goal.invariant-loop-height
invariant-loop-height l = heights_of l.row ≡ heights_of l.initial.row ++ occurring_first (height_with l.ace) (cards_of l.cards) l.occurrences l.height-index
