-- The height of a rank, with the ace at either end.
use Rattle.std.specs.Prelude.{ℕ}
use Rattle.card_set.specs.declared.card.Rank.{Rank}
use Rattle.card_set.specs.Ranks.{high_ace, low_ace}
use Rattle.hand_order.specs.declared.ranks.Ace.{Ace}
use Rattle.hand_order.specs.declared.ranks.Ace.TheVariants as aces

-- the height of a rank, with the ace high or low
abbrev pub height_with : Ace → Rank → ℕ
height_with aces.High = high_ace
height_with aces.Low = low_ace
