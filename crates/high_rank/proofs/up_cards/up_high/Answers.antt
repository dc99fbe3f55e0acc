use Rattle.std.proofs.Common.{arith, ap, ◌∙◌}
use Rattle.card_set.specs.Row.{cards_of}
use Rattle.hand_order.specs.declared.ranks.Ace.TheVariants as aces
use Rattle.hand_order.specs.Digits.{with_digits}
use Rattle.hand_order.proofs.RankDigits.{ranks_below}
use Rattle.high_rank.proofs.UpHighLaw.{up_number_is, up_ordered_at}
use Rattle.high_rank.proofs.up_cards.up_high.Goals as goal

pub make_points-requires-clause-below : goal.make_points-requires-clause-below
make_points-requires-clause-below c =
    let same = ap (with_digits 0) (c.as_slice.ensures ∙ c.ranks_of-ranks.ensures) in
    omega (arith, same, ranks_below aces.High (cards_of c.args.cards.now) (omega (arith, c.requires.few)))

pub returns-clause-points : goal.returns-clause-points
returns-clause-points c =
    c.make_points.ensures
    ∙ up_number_is (cards_of c.args.cards.now) c.count_of_ranks-fours.result c.count_of_ranks-threes.result c.count_of_ranks-pairs.result c.up_class.result c.as_slice.result.now c.count_of_ranks-fours.ensures c.count_of_ranks-threes.ensures c.count_of_ranks-pairs.ensures c.up_class.ensures (c.as_slice.ensures ∙ c.ranks_of-ranks.ensures)

pub returns-clause-ordered : goal.returns-clause-ordered
returns-clause-ordered c = λ other up same.
    up_ordered_at (cards_of c.args.cards.now) other c.make_points.result c.requires up same
    (c.make_points.ensures
    ∙ up_number_is (cards_of c.args.cards.now) c.count_of_ranks-fours.result c.count_of_ranks-threes.result c.count_of_ranks-pairs.result c.up_class.result c.as_slice.result.now c.count_of_ranks-fours.ensures c.count_of_ranks-threes.ensures c.count_of_ranks-pairs.ensures c.up_class.ensures (c.as_slice.ensures ∙ c.ranks_of-ranks.ensures))
