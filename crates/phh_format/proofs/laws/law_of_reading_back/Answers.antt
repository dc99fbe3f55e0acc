use Rattle.phh_format.proofs.ReadBack.{read_back}
use Rattle.phh_format.proofs.laws.law_of_reading_back.Goals as goal

pub returns : goal.returns
returns c = read_back
