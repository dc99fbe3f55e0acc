-- There are fewer notes left.
use Rattle.std.proofs.Common.{length}
use Rattle.acpc_format.proofs.notes.+find_plain.Given as goal

abbrev pub decreases-find_plain : goal.decreases-find_plain
decreases-find_plain l = length l.names.now
