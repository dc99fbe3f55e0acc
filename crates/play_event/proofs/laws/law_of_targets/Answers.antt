use Rattle.play_event.proofs.TargetLaws.{targets_end}
use Rattle.play_event.proofs.laws.law_of_targets.Goals as goal

pub returns : goal.returns
returns c = targets_end
