use Rattle.std.proofs.Common.{length}
use Rattle.printed_hands.proofs.ending.+push_pots.Given as goal

abbrev pub decreases-push_pots : goal.decreases-push_pots
decreases-push_pots l = length l.pots.now
