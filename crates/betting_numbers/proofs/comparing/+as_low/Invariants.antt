use Rattle.std.proofs.Common.{length}
use Rattle.betting_numbers.proofs.comparing.+as_low.Given as goal

abbrev pub decreases-as_low : goal.decreases-as_low
decreases-as_low l = length l.a.now
