use Rattle.play_laws.proofs.OneSpelling.{same_past, same_reason}
use Rattle.play_laws.proofs.spellings.law_of_actors.Goals as goal

pub returns-clause-same_reason : goal.returns-clause-same_reason
returns-clause-same_reason c = same_reason

pub returns-clause-same_past : goal.returns-clause-same_past
returns-clause-same_past c = same_past
