use Rattle.std.proofs.Common.{◌-◌}
use Rattle.low_rank.proofs.razz.+best_class.Given as goal

-- the classes that are left
abbrev pub decreases-best_class : goal.decreases-best_class
decreases-best_class l = 5 - l.class
