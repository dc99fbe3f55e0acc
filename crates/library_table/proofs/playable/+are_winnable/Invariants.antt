-- Each call looks at a shorter list.
use Rattle.std.proofs.Common.{length}
use Rattle.library_table.proofs.playable.+are_winnable.Given as goal

abbrev pub decreases-are_winnable : goal.decreases-are_winnable
decreases-are_winnable l = length l.pots.now
