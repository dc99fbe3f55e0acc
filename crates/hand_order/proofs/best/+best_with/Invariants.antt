use Rattle.std.proofs.Common.{◌-◌}
use Rattle.hand_order.proofs.best.+best_with.Given as goal

-- the cards that are left
abbrev pub decreases-best_with : goal.decreases-best_with
decreases-best_with g l = l.cards.now.len - l.from
