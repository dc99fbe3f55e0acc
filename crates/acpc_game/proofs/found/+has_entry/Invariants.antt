use Rattle.std.proofs.Common.{length}
use Rattle.acpc_game.proofs.found.+has_entry.Given as goal

abbrev pub decreases-has_entry : goal.decreases-has_entry
decreases-has_entry l = length l.entries.now
