use Rattle.canon_laws.proofs.SuitedMoves.{played_by}
use Rattle.canon_laws.proofs.laws.law_of_other_rules.Goals as goal

pub returns : goal.returns
returns c = record { legal = played_by }
