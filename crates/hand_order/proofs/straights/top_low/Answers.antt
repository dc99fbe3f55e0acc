use Rattle.std.proofs.Common.{inr, sym, subst, ◌∙◌}
use Rattle.hand_order.specs.declared.straights.LowStraight.{LowStraight}
use Rattle.hand_order.specs.StraightRanks.{HasLow}
use Rattle.hand_order.proofs.StraightBits.{five_bits, five_heights, nine_bits, nine_heights}
use Rattle.hand_order.proofs.straights.top_low.Goals as goal
use Rattle.card_set.proofs.Tests.{not_set}

pub returns-then-has_low_straight-clause-found : goal.returns-then-has_low_straight-clause-found
returns-then-has_low_straight-clause-found c = λ T shows.
    inr (subst (λ (low : LowStraight). HasLow low T 5) (sym c.in-FiveHigh.is) (five_heights c.args.mask T shows (sym c.has_low_straight.ensures ∙ c.if-has_low_straight.true)))

pub returns-else-has_low_straight-clause-most : goal.returns-else-has_low_straight-clause-most
returns-else-has_low_straight-clause-most c = λ T top shows has.
    not_set top (five_bits c.args.mask T top shows (subst (λ (low : LowStraight). HasLow low T top) c.in-FiveHigh.is has)) (sym c.has_low_straight.ensures ∙ c.if-has_low_straight.false)

pub returns-then-has_low_straight-2-clause-found : goal.returns-then-has_low_straight-2-clause-found
returns-then-has_low_straight-2-clause-found c = λ T shows.
    inr (subst (λ (low : LowStraight). HasLow low T 9) (sym c.in-NineHigh.is) (nine_heights c.args.mask T shows (sym c.has_low_straight-in-NineHigh.ensures ∙ c.if-has_low_straight-2.true)))

pub returns-else-has_low_straight-2-clause-most : goal.returns-else-has_low_straight-2-clause-most
returns-else-has_low_straight-2-clause-most c = λ T top shows has.
    not_set top (nine_bits c.args.mask T top shows (subst (λ (low : LowStraight). HasLow low T top) c.in-NineHigh.is has)) (sym c.has_low_straight-in-NineHigh.ensures ∙ c.if-has_low_straight-2.false)
