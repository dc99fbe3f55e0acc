use Rattle.std.proofs.Common.{length}
use Rattle.acpc_game.proofs.supported.+greatest.Given as goal

abbrev pub decreases-greatest : goal.decreases-greatest
decreases-greatest l = length l.numbers.now
