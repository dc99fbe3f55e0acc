-- One street less is left.
use Rattle.replay_core.proofs.places.+push_streets.Given as goal

abbrev pub decreases-push_streets : goal.decreases-push_streets
decreases-push_streets l = l.count
