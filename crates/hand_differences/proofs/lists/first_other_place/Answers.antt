-- If both lists have the same entry, the first number comes later.
use Rattle.std.proofs.Common.{◌∙◌, ap, arith, length, max, not, sym}
use Rattle.hand_differences.proofs.FirstNumbers.{next_number}
use Rattle.hand_differences.specs.FirstNumbers.{is_same_at}
use Rattle.hand_differences.specs.SameParts.{is_same_place}
use Rattle.hand_differences.proofs.lists.first_other_place.Goals as goal

pub loop-index-preserved : goal.loop-index-preserved
loop-index-preserved c =
    next_number (λ number. not (is_same_at is_same_place c.args.dealt.now c.args.others.now number)) c.loop-index.index (max (length c.args.dealt.now) (length c.args.others.now))
    (omega (arith, c.loop-index-test.true, c.greater-index-end.ensures)) (ap not (sym c.are_equal_places_at.ensures ∙ c.if-not-are_equal_places_at.false)) c.loop-index.invariant
