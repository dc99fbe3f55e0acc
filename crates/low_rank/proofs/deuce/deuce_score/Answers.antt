use Rattle.std.proofs.Common.{ℕ, Some, ◌-◌, ◌^◌, arith, ap, ◌∙◌}
use Rattle.card_set.specs.Row.{cards_of}
use Rattle.hand_order.specs.declared.straights.LowStraight.TheVariants as straights
use Rattle.hand_order.proofs.HighLaw.{high_below, ladder_high}
use Rattle.low_rank.proofs.deuce.deuce_score.Goals as goal

pub overflow_sub-result : goal.overflow_sub-result
overflow_sub-result c =
    omega (arith, c.hand_points.ensures, ladder_high straights.Nothing (cards_of c.args.cards.now), high_below straights.Nothing (cards_of c.args.cards.now) c.requires)

pub returns : goal.returns
returns c = ap (λ (n : ℕ). Some (16 ^ 6 - n)) (c.hand_points.ensures ∙ ladder_high straights.Nothing (cards_of c.args.cards.now))
