use Rattle.play_event.proofs.RaiseLaws.{has_target, legal_raise}
use Rattle.play_event.proofs.laws.law_of_raises.Goals as goal

pub returns-clause-only : goal.returns-clause-only
returns-clause-only c = has_target

pub returns-clause-legal : goal.returns-clause-legal
returns-clause-legal c = legal_raise
