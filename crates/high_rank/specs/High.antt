-- The high order: an ace begins A2345, the lowest straight, topped by the five.
use Rattle.std.specs.Prelude.{ℕ, List, Option, Some}
use Rattle.card_set.specs.declared.card.Card.{Card}
use Rattle.hand_order.specs.declared.straights.LowStraight.TheVariants as straights
use Rattle.hand_order.specs.Straights.{IsWeakerHigh, high_points}

-- a hand of five cards is weaker than another
abbrev pub IsWeaker : List Card → List Card → Type 0
IsWeaker a b = IsWeakerHigh straights.FiveHigh a b

-- the points of its score
abbrev pub points : List Card → Option ℕ
points cards = Some (high_points straights.FiveHigh cards)

-- any five different cards are a hand
abbrev pub IsHand : List Card → Type 0
IsHand cards = Unit {0}
