use Rattle.std.proofs.Common.{length}
use Rattle.betting_numbers.proofs.counting.+count_heights.Given as goal

abbrev pub decreases-count_heights : goal.decreases-count_heights
decreases-count_heights l = length l.cards.now
