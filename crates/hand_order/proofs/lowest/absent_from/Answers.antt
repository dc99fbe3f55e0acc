use Rattle.std.proofs.Common.{arith, refl, sym, ◌∙◌}
use Rattle.hand_order.proofs.AbsentRanks.{after_ace, next_ace, rank_next, ranks_absent}
use Rattle.hand_order.proofs.lowest.absent_from.Goals as goal

pub returns-then-from-eq1-clause-absent : goal.returns-then-from-eq1-clause-absent
returns-then-from-eq1-clause-absent c = λ k below.
    after_ace c.args.mask c.args.from k _ c.ranges.mask.fits c.if-from-eq1.true (sym c.has_rank.ensures ∙ c.if-has_rank.false) refl below

pub returns-then-from-eq1-clause-next : goal.returns-then-from-eq1-clause-next
returns-then-from-eq1-clause-next c = λ within. next_ace c.args.mask c.args.from _ c.ranges.mask.fits c.if-from-eq1.true refl within

pub returns-clause-absent : goal.returns-clause-absent
returns-clause-absent c = λ k below. ranks_absent c.args.mask c.args.from k c.ranges.mask.fits (omega (arith, c.requires.first, c.if-from-eq1.false)) below

pub returns-clause-next : goal.returns-clause-next
returns-clause-next c = λ within. rank_next c.args.mask c.args.from c.ranges.mask.fits (omega (arith, c.requires.first, c.if-from-eq1.false)) within
