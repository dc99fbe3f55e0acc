-- The order of razz: the ace is low, straights and flushes do not count, and low cards are good.
use Rattle.std.specs.Prelude.{ℕ, List, Option, Some}
use Rattle.card_set.specs.declared.card.Card.{Card}
use Rattle.card_set.specs.UpCards.{IsWeakerLow}
use Rattle.low_rank.specs.Low.{low_points}

-- any five different cards are a hand
abbrev pub IsHand : List Card → Type 0
IsHand cards = Unit {0}

-- a hand is weaker than another
abbrev pub IsWeaker : List Card → List Card → Type 0
IsWeaker a b = IsWeakerLow a b

-- the points of its score
abbrev pub points : List Card → Option ℕ
points cards = Some (low_points cards)
