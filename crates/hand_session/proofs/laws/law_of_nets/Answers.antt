-- The net results and the rakes of all hands add up to zero.
use Rattle.hand_session.specs.Sessions.{session_of}
use Rattle.hand_session.proofs.Nets.{nets_and_rakes}
use Rattle.hand_session.proofs.laws.law_of_nets.Goals as goal

pub returns : goal.returns
unfolding session_of
returns c = nets_and_rakes
