use Rattle.std.proofs.Common.{length}
use Rattle.ohh_writing.proofs.seating.+count_falls.Given as goal

abbrev pub decreases-count_falls : goal.decreases-count_falls
decreases-count_falls l = length l.numbers.now
