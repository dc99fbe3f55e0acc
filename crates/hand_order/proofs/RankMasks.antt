-- The mask of a suit shows which of its ranks a set has.
use Rattle.std.proofs.Common.{◌≡◌, ◌^◌, ◌<◌, ◌==◌, ℕ}
use Rattle.std.specs.Int.{bit_at}
use Rattle.card_set.specs.declared.card.Rank.{Rank}
use Rattle.card_set.specs.declared.card.Suit.{Suit}
use Rattle.card_set.specs.declared.set.CardSet.{CardSet}
use Rattle.card_set.specs.CardSet.{is_in}
use Rattle.card_set.specs.Deck.{ranks_below}

-- a mask has the ranks of a suit of the set
pub record IsMaskOf (set : CardSet) (mask : ℕ) (suit : Suit) : Type 0 where
  pub within : mask < 2 ^ 13
  pub each : (rank : Rank) → (bit_at mask (ranks_below rank) == 1) ≡ is_in set (record { rank = rank; suit = suit })
