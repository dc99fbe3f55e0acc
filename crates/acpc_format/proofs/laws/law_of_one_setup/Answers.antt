use Rattle.acpc_format.proofs.OneSetup.{spelled_setup}
use Rattle.acpc_format.proofs.laws.law_of_one_setup.Goals as goal

pub returns : goal.returns
returns c = spelled_setup
