use Rattle.hand_differences.proofs.Beginnings.{both_dealt, both_moved}
use Rattle.hand_differences.proofs.laws.law_of_entries.Goals as goal

pub returns-clause-moves : goal.returns-clause-moves
returns-clause-moves c = both_moved

pub returns-clause-places : goal.returns-clause-places
returns-clause-places c = both_dealt
