-- Each call looks at a shorter list.
use Rattle.std.proofs.Common.{length}
use Rattle.library_table.proofs.playable.+lacks.Given as goal

abbrev pub decreases-lacks : goal.decreases-lacks
decreases-lacks l = length l.cards.now
