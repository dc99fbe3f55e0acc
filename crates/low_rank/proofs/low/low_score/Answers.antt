use Rattle.std.proofs.Common.{ℕ, ◌-◌, ◌^◌, arith, ap, ◌∙◌}
use Rattle.card_set.specs.Row.{cards_of}
use Rattle.hand_order.specs.declared.ranks.Ace.TheVariants as aces
use Rattle.hand_order.specs.Digits.{with_digits}
use Rattle.hand_order.proofs.RankDigits.{ranks_below}
use Rattle.low_rank.proofs.LowNumber.{class_seen, class_within, above_seen, above_below}
use Rattle.low_rank.proofs.low.low_score.Goals as goal

pub class_of-requires : goal.class_of-requires
class_of-requires c =
    class_within (cards_of c.args.cards.now) c.count_of_ranks-fours.result c.count_of_ranks-threes.result c.count_of_ranks-pairs.result c.requires.few c.requires.different c.count_of_ranks-fours.ensures c.count_of_ranks-threes.ensures c.count_of_ranks-pairs.ensures

pub make_points-requires-clause-below : goal.make_points-requires-clause-below
make_points-requires-clause-below c =
    let same = ap (with_digits 0) (c.as_slice.ensures ∙ c.ranks_of-ranks.ensures) in
    omega (arith, same, ranks_below aces.Low (cards_of c.args.cards.now) c.requires.few)

pub overflow_sub-result : goal.overflow_sub-result
overflow_sub-result c =
    let class_is = c.class_of.ensures ∙ class_seen (cards_of c.args.cards.now) c.count_of_ranks-fours.result c.count_of_ranks-threes.result c.count_of_ranks-pairs.result c.count_of_ranks-fours.ensures c.count_of_ranks-threes.ensures c.count_of_ranks-pairs.ensures in
    omega (arith, c.make_points.ensures, above_below (cards_of c.args.cards.now) c.class_of.result c.as_slice.result.now c.requires.few c.requires.different class_is (c.as_slice.ensures ∙ c.ranks_of-ranks.ensures))

pub returns : goal.returns
returns c =
    let class_is = c.class_of.ensures ∙ class_seen (cards_of c.args.cards.now) c.count_of_ranks-fours.result c.count_of_ranks-threes.result c.count_of_ranks-pairs.result c.count_of_ranks-fours.ensures c.count_of_ranks-threes.ensures c.count_of_ranks-pairs.ensures in
    ap (λ (n : ℕ). 16 ^ 6 - n) (c.make_points.ensures ∙ above_seen (cards_of c.args.cards.now) c.class_of.result c.as_slice.result.now class_is (c.as_slice.ensures ∙ c.ranks_of-ranks.ensures))
