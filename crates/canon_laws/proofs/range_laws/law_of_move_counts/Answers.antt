-- Both scripts have the moves of one trace.
use Rattle.canon_laws.proofs.SameMoves.{same_moves}
use Rattle.canon_laws.proofs.range_laws.law_of_move_counts.Goals as goal

pub returns : goal.returns
returns c = λ setup rules script played. same_moves setup rules script played
