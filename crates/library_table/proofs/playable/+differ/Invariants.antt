-- Each call looks at a shorter list.
use Rattle.std.proofs.Common.{length}
use Rattle.library_table.proofs.playable.+differ.Given as goal

abbrev pub decreases-differ : goal.decreases-differ
decreases-differ l = length l.cards.now
