use Rattle.std.proofs.Common.{length}
use Rattle.card_places.proofs.ordering.+in_group.Given as goal

abbrev pub decreases-in_group : goal.decreases-in_group
decreases-in_group l = length l.rows.now
