use Rattle.hand_differences.proofs.SameHands.{same_traces, same_with_notes}
use Rattle.hand_differences.proofs.laws.law_of_same_hands.Goals as goal

pub returns-clause-notes : goal.returns-clause-notes
returns-clause-notes c = same_with_notes

pub returns-clause-traces : goal.returns-clause-traces
returns-clause-traces c = same_traces
