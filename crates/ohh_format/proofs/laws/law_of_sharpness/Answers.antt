use Rattle.ohh_format.proofs.Sharpness.{sharpness}
use Rattle.ohh_format.proofs.laws.law_of_sharpness.Goals as goal

pub returns : goal.returns
returns c = sharpness
