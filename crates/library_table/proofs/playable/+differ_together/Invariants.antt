-- Each call looks at a shorter list.
use Rattle.std.proofs.Common.{length}
use Rattle.library_table.proofs.playable.+differ_together.Given as goal

abbrev pub decreases-differ_together : goal.decreases-differ_together
decreases-differ_together l = length l.hole.now
