use Rattle.std.proofs.Common.{length}
use Rattle.betting_numbers.proofs.comparing.+lower.Given as goal

abbrev pub decreases-lower : goal.decreases-lower
decreases-lower l = length l.a.now
