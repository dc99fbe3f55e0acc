-- What is made of a made setup makes progress, and ends.
use Rattle.hand_gen.proofs.MadeProgress.{hands_end, hands_progress}
use Rattle.hand_gen.proofs.laws.law_of_progress.Goals as goal

pub returns : goal.returns
returns c = record { progress = hands_progress; ends = hands_end }
