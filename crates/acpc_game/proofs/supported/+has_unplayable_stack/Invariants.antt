use Rattle.std.proofs.Common.{length}
use Rattle.acpc_game.proofs.supported.+has_unplayable_stack.Given as goal

abbrev pub decreases-has_unplayable_stack : goal.decreases-has_unplayable_stack
decreases-has_unplayable_stack l = length l.stacks.now
