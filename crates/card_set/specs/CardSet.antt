-- A set of cards: which of the 52 cards are in it.
use Rattle.std.specs.Prelude.{ℕ, ◌+◌, ◌*◌, ◌==◌, ◌≡◌, ◌||◌, Bool, false, List, [], ◌∷◌, length, filter, map}
use Rattle.std.specs.Int.{bit_at}
use Rattle.std.specs.List.{flat_map}
use Rattle.card_set.specs.declared.card.Card.{Card}
use Rattle.card_set.specs.declared.set.CardSet.{CardSet}
use Rattle.card_set.specs.Deck.{ranks_below, suits_before, is_same_card, all_ranks, all_suits}
use Rattle.card_set.specs.Different.{AllDifferent}

-- the bit of a card in a set (from 0): suit by suit, and in a suit from the two to the ace
abbrev pub bit_index : Card → ℕ
bit_index card = 13 * suits_before card.suit + ranks_below card.rank

-- the card is in the set
unfoldable pub is_in : CardSet → Card → Bool
is_in set card = bit_at set.bits (bit_index card) == 1

-- the 52 cards
unfoldable pub every_card : List Card
every_card =
    flat_map (λ rank. map (λ suit. record { rank = rank; suit = suit }) all_suits) all_ranks

-- the cards of a set, in the order of the deck
abbrev pub listed : CardSet → List Card
listed set = filter (is_in set) every_card

-- the number of cards in the set
abbrev pub count_of : CardSet → ℕ
count_of set = length (filter (is_in set) every_card)

-- the card is one of these
abbrev pub is_one_of : Card → List Card → Bool
is_one_of card [] = false
is_one_of card (other ∷ rest) = is_same_card other card || is_one_of card rest

-- these are the cards of the set, in any order, each once
pub record IsListing (set : CardSet) (cards : List Card) : Type 0 where
  pub different : AllDifferent cards
  pub same : (card : Card) → is_in set card ≡ is_one_of card cards

-- both lists have the same cards
abbrev pub AreSameCards : List Card → List Card → Type 0
AreSameCards a b = (card : Card) → is_one_of card a ≡ is_one_of card b
