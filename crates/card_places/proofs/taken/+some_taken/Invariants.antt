use Rattle.std.proofs.Common.{length}
use Rattle.card_places.proofs.taken.+some_taken.Given as goal

abbrev pub decreases-some_taken : goal.decreases-some_taken
decreases-some_taken l = length l.slots.now
