-- One hand after another is visited; at the end all are, or the first refused one is reported.
use Rattle.std.proofs.Common.{◌≡◌, ◌≤◌, List, ◌∷◌, length, ap, subst, sym, ◌∙◌, arith}
use Rattle.std.proofs.lemmas.Result.{err_from_is_err_and}
use Rattle.std.proofs.lemmas.List.{nil_from_length}
use Rattle.std.proofs.lemmas.List.Elements.{All-rest}
use Rattle.first_fault.specs.declared.limits.TheConstants.{MOST_HANDS}
use Rattle.std.specs.Vec.Iter.{into_iter_items}
use Rattle.hand_canon.specs.SoundRecord.{IsSoundRecord}
use Rattle.hand_canon.specs.declared.record.Record.{Record}
use Rattle.convert_core.proofs.Taken.{AreOnTheWay, at_end, has_room, one_on, refused_on}
use Rattle.convert_core.proofs.taking.judge_all.Goals as goal

pub take_hand-requires-clause-begun : goal.take_hand-requires-clause-begun
take_hand-requires-clause-begun g c =
    let taken = c.loop-hand.invariant.way.taken in
    (c.args.visitor.now, record { verdicts = taken.verdicts; took = taken.took; counted = taken.counted })

pub invariant_of-place : goal.invariant_of-place
invariant_of-place g c =
    let left = into_iter_items c.next.new.self in
    record {
      within = has_room g.T.VerdictVisitor.CONTINUES g.T.VerdictVisitor.KEEPS (g.T.VerdictVisitor.Took c.args.visitor.now c.loop-hand.visitor) c.args.records left c.in-Some.hand c.loop-hand.index _ c.loop-hand.kept.items
          (subst (λ (rest : List Record). AreOnTheWay g.T.VerdictVisitor.CONTINUES g.T.VerdictVisitor.KEEPS (g.T.VerdictVisitor.Took c.args.visitor.now c.loop-hand.visitor) c.args.records rest c.loop-hand.index c.loop-hand.kept.items) c.in-Some.ensures.steps.0 c.loop-hand.invariant.way)
          (subst (λ (hands : List Record). length hands ≤ MOST_HANDS) c.into_vec-hands.ensures.same c.into_vec-hands.ensures.few);
    }

pub returns-in_err-take_hand-clause-refused : goal.returns-in_err-take_hand-clause-refused
returns-in_err-take_hand-clause-refused g c =
    let left = into_iter_items c.next.new.self in
    let p = err_from_is_err_and c.from_residual-in_err-take_hand.result c.from_residual-in_err-take_hand.ensures.1 in
    rw (p.1, p.2) (refused_on g.T.VerdictVisitor.CONTINUES g.T.VerdictVisitor.KEEPS (g.T.VerdictVisitor.Took c.args.visitor.now c.loop-hand.visitor) c.args.records left c.in-Some.hand c.loop-hand.index c.loop-hand.kept.items c.in_err-take_hand.field-0.0
    (subst (λ (rest : List Record). AreOnTheWay g.T.VerdictVisitor.CONTINUES g.T.VerdictVisitor.KEEPS (g.T.VerdictVisitor.Took c.args.visitor.now c.loop-hand.visitor) c.args.records rest c.loop-hand.index c.loop-hand.kept.items) c.in-Some.ensures.steps.0 c.loop-hand.invariant.way)
    c.in_err-take_hand.ensures.continues c.in_err-take_hand.ensures.refused)

pub loop-hand-preserved : goal.loop-hand-preserved
loop-hand-preserved g c =
    let left = into_iter_items c.next.new.self in
    let next : into_iter_items c.loop-hand.hand-iterator ≡ c.in-Some.hand ∷ left = c.in-Some.ensures.steps.0 in
    record {
      can_next = tt;
      is_finite = tt;
      way = one_on g.T.VerdictVisitor.CONTINUES g.T.VerdictVisitor.KEEPS (g.T.VerdictVisitor.Took c.args.visitor.now c.loop-hand.visitor) (g.T.VerdictVisitor.Took c.args.visitor.now c.take_hand.new.visitor) c.args.records left c.in-Some.hand c.loop-hand.index c.loop-hand.kept.items c.take_hand.new.kept.items
          (subst (λ (rest : List Record). AreOnTheWay g.T.VerdictVisitor.CONTINUES g.T.VerdictVisitor.KEEPS (g.T.VerdictVisitor.Took c.args.visitor.now c.loop-hand.visitor) c.args.records rest c.loop-hand.index c.loop-hand.kept.items) next c.loop-hand.invariant.way)
          (c.in_ok-take_hand.ensures.taken c.args.visitor.now);
      counted = omega (arith, c.loop-hand.invariant.counted, ap length next);
      sound = All-rest IsSoundRecord c.in-Some.hand left (into_iter_items c.loop-hand.hand-iterator) next c.loop-hand.invariant.sound;
    }

pub returns-clause-taken : goal.returns-clause-taken
returns-clause-taken g c =
    let left = into_iter_items c.loop-hand.hand-iterator in
    at_end g.T.VerdictVisitor.CONTINUES g.T.VerdictVisitor.KEEPS (g.T.VerdictVisitor.Took c.args.visitor.now c.loop-hand.visitor) c.args.records left c.loop-hand.index c.loop-hand.kept.items
    c.loop-hand.invariant.way (nil_from_length left (sym c.loop-hand.hand-iterator.rest.ok.0 ∙ c.in-None.ensures.steps.0))
