-- Hand by hand.
use Rattle.phh_format.proofs.Sharpness.{unspelled_unsaid}
use Rattle.phh_format.proofs.laws.law_of_sharpness.Goals as goal

pub returns : goal.returns
returns c = λ play fact is bytes hands reads. unspelled_unsaid play fact is bytes hands reads
