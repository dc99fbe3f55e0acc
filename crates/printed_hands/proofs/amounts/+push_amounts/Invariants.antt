use Rattle.std.proofs.Common.{length}
use Rattle.printed_hands.proofs.amounts.+push_amounts.Given as goal

abbrev pub decreases-push_amounts : goal.decreases-push_amounts
decreases-push_amounts l = length l.amounts.now
