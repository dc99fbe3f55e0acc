use Rattle.std.proofs.Common.{length}
use Rattle.card_places.proofs.taken.+lies.Given as goal

abbrev pub decreases-lies : goal.decreases-lies
decreases-lies l = length l.rows.now
