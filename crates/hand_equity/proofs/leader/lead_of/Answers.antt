use Rattle.std.proofs.Common.{refl, arith}
use Rattle.hand_equity.proofs.Leads.{lead_joined, lead_kept, lead_taken}
use Rattle.hand_equity.proofs.leader.lead_of.Goals as goal
use Rattle.hand_equity.proofs.leader.lead_of.Goals.{then-other-worth, else-other-worth+then-other-worth-2, else-other-worth+else-other-worth-2}

pub loop-other-preserved : goal.loop-other-preserved
loop-other-preserved c =
    let worths = c.args.worths.now in
    let index = c.loop-other.other-index in
    let is = c.loop-other.invariant in
    elim c.if-other-worth.branch [
      | then-other-worth w ↦ rw (w.worth-is, w.seats-is) (lead_taken worths index c.loop-other.worth c.loop-other.seats _ (omega arith) is refl w.if-other-worth.true)
      | else-other-worth+then-other-worth-2 w ↦ rw (w.worth-is, w.seats-is) (lead_joined worths index c.loop-other.worth c.loop-other.seats (omega arith) is w.if-other-worth-2.true)
      | else-other-worth+else-other-worth-2 w ↦ rw (w.worth-is, w.seats-is) (lead_kept worths index c.loop-other.worth c.loop-other.seats (omega arith) is (omega (arith, w.if-other-worth.false, w.if-other-worth-2.false)))
    ]
