use Rattle.play_laws.proofs.OneSpelling.{equal_past, equal_reason}
use Rattle.play_laws.proofs.spellings.law_of_equal_targets.Goals as goal

pub returns-clause-same_reason : goal.returns-clause-same_reason
returns-clause-same_reason c = equal_reason

pub returns-clause-same_past : goal.returns-clause-same_past
returns-clause-same_past c = equal_past
