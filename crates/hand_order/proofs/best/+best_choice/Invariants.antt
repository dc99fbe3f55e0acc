use Rattle.std.proofs.Common.{◌-◌}
use Rattle.hand_order.proofs.best.+best_choice.Given as goal

-- the cards that are left
abbrev pub decreases-best_choice : goal.decreases-best_choice
decreases-best_choice g l = l.cards.now.len - l.from
