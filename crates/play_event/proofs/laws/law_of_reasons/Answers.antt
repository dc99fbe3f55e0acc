use Rattle.play_event.proofs.ReasonLaws.{no_reason_holds, legal_without_reason}
use Rattle.play_event.proofs.laws.law_of_reasons.Goals as goal

pub returns-clause-none_holds : goal.returns-clause-none_holds
returns-clause-none_holds c = no_reason_holds

pub returns-clause-legal : goal.returns-clause-legal
returns-clause-legal c = legal_without_reason
