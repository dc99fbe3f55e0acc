use Rattle.phh_reading.proofs.Cutting.{cut_document}
use Rattle.phh_reading.proofs.laws.law_of_tables.Goals as goal

pub returns : goal.returns
returns c = cut_document
