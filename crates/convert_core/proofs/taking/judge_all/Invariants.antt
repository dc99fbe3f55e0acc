-- The verdicts on the records so far were visited; the others are left.
use Rattle.std.proofs.Common.{◌≡◌, ◌+◌, All, length}
use Rattle.std.specs.Vec.Iter.{into_iter_items}
use Rattle.hand_canon.specs.SoundRecord.{IsSoundRecord}
use Rattle.convert_core.proofs.Taken.{AreOnTheWay}
use Rattle.convert_core.proofs.taking.judge_all.Given as goal

abbrev pub invariant-loop-hand : goal.invariant-loop-hand
invariant-loop-hand g l =
    record {
      can_next : (goal.iterator-loop-hand g).can_next l.hand-iterator;
      is_finite : (goal.iterator-loop-hand g).is_finite l.hand-iterator;
      way : AreOnTheWay g.T.VerdictVisitor.CONTINUES g.T.VerdictVisitor.KEEPS (g.T.VerdictVisitor.Took l.initial.visitor l.visitor) l.fn.records (into_iter_items l.hand-iterator) l.index l.kept.items;
      counted : l.index + length (into_iter_items l.hand-iterator) ≡ length l.fn.records;
      sound : All IsSoundRecord (into_iter_items l.hand-iterator);
    }
