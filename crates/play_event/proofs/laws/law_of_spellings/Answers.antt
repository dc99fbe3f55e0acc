use Rattle.play_event.proofs.SpellingLaws.{same_reason, same_past}
use Rattle.play_event.proofs.laws.law_of_spellings.Goals as goal

pub returns-clause-same_reason : goal.returns-clause-same_reason
returns-clause-same_reason c = same_reason

pub returns-clause-same_past : goal.returns-clause-same_past
returns-clause-same_past c = same_past
