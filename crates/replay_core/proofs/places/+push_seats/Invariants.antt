-- One seat less is left.
use Rattle.replay_core.proofs.places.+push_seats.Given as goal

abbrev pub decreases-push_seats : goal.decreases-push_seats
decreases-push_seats l = l.count
