-- The order of deuce-to-seven: the high order reversed, with the ace always high.
use Rattle.std.specs.Prelude.{ℕ, ◌-◌, ◌^◌, List, Option, Some}
use Rattle.card_set.specs.declared.card.Card.{Card}
use Rattle.hand_order.specs.declared.straights.LowStraight.TheVariants as straights
use Rattle.hand_order.specs.Straights.{IsWeakerHigh, high_points}

-- any five different cards are a hand
abbrev pub IsHand : List Card → Type 0
IsHand cards = Unit {0}

-- a hand is weaker than another if the other is weaker in the high order, without A2345 as a
-- straight
abbrev pub IsWeaker : List Card → List Card → Type 0
IsWeaker a b = IsWeakerHigh straights.Nothing b a

-- the points of its score
abbrev pub points : List Card → Option ℕ
points cards = Some (16 ^ 6 - high_points straights.Nothing cards)
