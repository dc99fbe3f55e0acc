use Rattle.std.proofs.Common.{length}
use Rattle.betting_numbers.proofs.comparing.+as_high.Given as goal

abbrev pub decreases-as_high : goal.decreases-as_high
decreases-as_high l = length l.a.now
