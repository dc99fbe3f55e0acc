-- The high order is lawful.
-- This is a proof: no reader needs it.
use Rattle.hand_order.specs.declared.straights.LowStraight.TheVariants as straights
use Rattle.hand_order.specs.Choices.{AreHeld}
use Rattle.hand_order.specs.Order.{IsLawful}
use Rattle.hand_order.specs.Straights.{high_points}
use Rattle.hand_order.proofs.HighLaw.{high_ordered}
use Rattle.hand_order.proofs.Lawful.{lawful_by_numbers}
use Rattle.high_rank.specs.High.{IsHand, IsWeaker, points}

-- the order of high hands is lawful
pub lawful_high : IsLawful (AreHeld 5) IsHand IsWeaker points
lawful_high =
    lawful_by_numbers (AreHeld 5) IsWeaker (high_points straights.FiveHigh)
    (high_ordered straights.FiveHigh)
