-- One card less is left.
use Rattle.std.proofs.Common.{length}
use Rattle.replay_core.proofs.places.+push_group.Given as goal

abbrev pub decreases-push_group : goal.decreases-push_group
decreases-push_group l = length l.dealt.now
