-- The points of a high hand do not depend on the order of its cards.
use Rattle.std.proofs.Common.{◌||◌, ◌-◌, cond, [], ◌∷◌, Some, arith}
use Rattle.card_set.specs.Classes.{classes_above}
use Rattle.card_set.specs.Ranks.{high_ace}
use Rattle.hand_order.specs.declared.straights.LowStraight.{LowStraight}
use Rattle.hand_order.specs.Choices.{AreAlike}
use Rattle.hand_order.specs.Digits.{class_above}
use Rattle.hand_order.specs.Straights.{is_run, is_low_straight, straight_top, deciding_ranks, high_class, high_points}
use Rattle.hand_order.specs.Tables.{high_table}
use Rattle.hand_order.proofs.Alike.{told_alike}

pub high_alike : (low : LowStraight) → AreAlike (λ cards. Some (high_points low cards)) 5
unfolding high_class deciding_ranks
high_alike low a b held_a held_b same =
    told_alike (λ four three two ranks flush. Some (class_above (8 - classes_above (high_table four three two (is_run ranks || is_low_straight low ranks) flush)) (cond (is_run ranks || is_low_straight low ranks) (straight_top ranks ∷ []) ranks)))
    high_ace a b held_a.1 held_b.1 (omega (arith, held_a.0)) (omega (arith, held_b.0)) same
