-- Cards that are dealt in the order of the deck.
use Rattle.std.specs.Prelude.{◌<◌, ℕ, List}
use Rattle.card_set.specs.declared.card.Card.{Card}
use Rattle.card_set.specs.Deck.{deck_index}
use Rattle.card_set.specs.Different.{AllDifferent, Every}

-- different cards that come before a place in the deck
pub record AreDealt (from : ℕ) (cards : List Card) : Type 0 where
  pub different : AllDifferent cards
  pub before : Every (λ card. deck_index card < from) cards
