-- The points of a low hand do not depend on the order of its cards.
use Rattle.std.proofs.Common.{◌-◌, ◌^◌, ℕ, Option, Some, None, ap}
use Rattle.hand_order.specs.declared.straights.LowStraight.TheVariants as straights
use Rattle.hand_order.specs.Choices.{AreAlike}
use Rattle.hand_order.proofs.HighAlike.{high_alike}
use Rattle.low_rank.specs.DeuceSeven as deuce

pub deuce_alike : AreAlike deuce.points 5
deuce_alike a b held_a held_b same =
    ap (option_less) (high_alike straights.Nothing a b held_a held_b same)
  where
    option_less : Option ℕ → Option ℕ
    option_less None = None
    option_less (Some n) = Some (16 ^ 6 - n)
