use Rattle.hand_differences.proofs.Beginnings.{no_further_moves, no_further_places}
use Rattle.hand_differences.proofs.laws.law_of_beginnings.Goals as goal

pub returns-clause-moves : goal.returns-clause-moves
returns-clause-moves c = no_further_moves

pub returns-clause-places : goal.returns-clause-places
returns-clause-places c = no_further_places
