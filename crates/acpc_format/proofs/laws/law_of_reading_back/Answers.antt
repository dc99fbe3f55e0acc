use Rattle.acpc_format.proofs.HandsAgain.{read_back}
use Rattle.acpc_format.proofs.laws.law_of_reading_back.Goals as goal

pub returns : goal.returns
returns c = read_back
