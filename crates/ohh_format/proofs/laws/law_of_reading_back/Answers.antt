use Rattle.ohh_format.proofs.ReadBack.{read_back}
use Rattle.ohh_format.proofs.laws.law_of_reading_back.Goals as goal

pub returns : goal.returns
returns c = read_back
