use Rattle.convert_core.proofs.OneOutcome.{not_both, one_first, same_plays}
use Rattle.convert_core.proofs.laws.law_of_one_outcome.Goals as goal

pub returns-clause-plays : goal.returns-clause-plays
returns-clause-plays c = same_plays

pub returns-clause-refused : goal.returns-clause-refused
returns-clause-refused c = one_first

pub returns-clause-either : goal.returns-clause-either
returns-clause-either c = not_both
