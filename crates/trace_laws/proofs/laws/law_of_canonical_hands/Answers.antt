use Rattle.trace_laws.proofs.SameShares.{legal_hand, same_shares}
use Rattle.trace_laws.proofs.laws.law_of_canonical_hands.Goals as goal

pub returns-clause-legal : goal.returns-clause-legal
returns-clause-legal c = legal_hand

pub returns-clause-same_shares : goal.returns-clause-same_shares
returns-clause-same_shares c = same_shares
