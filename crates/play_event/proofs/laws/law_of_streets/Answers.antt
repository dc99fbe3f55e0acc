use Rattle.play_event.proofs.StreetLaws.{due_is_first, first_is_due}
use Rattle.play_event.proofs.laws.law_of_streets.Goals as goal

pub returns-clause-due_is_first : goal.returns-clause-due_is_first
returns-clause-due_is_first c = due_is_first

pub returns-clause-first_is_due : goal.returns-clause-first_is_due
returns-clause-first_is_due c = first_is_due
