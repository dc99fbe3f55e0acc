-- The highest strength so far, and how many have it.
use Rattle.hand_equity.proofs.Leads.{IsLeadSoFar}
use Rattle.hand_equity.proofs.leader.lead_of.Given as goal

abbrev pub invariant-loop-other : goal.invariant-loop-other
invariant-loop-other l = IsLeadSoFar l.worths l.other-index l.worth l.seats
