-- The cards in the order of the deck: by rank from the lowest, and then by suit c, d, h, s.
use Rattle.std.specs.Prelude.{ℕ, Bool, ◌+◌, ◌*◌, ◌/◌, ◌%◌, ◌==◌, List, [], ◌∷◌, slice_get, unwrap_or}
use Rattle.card_set.specs.declared.card.Card.{Card}
use Rattle.card_set.specs.declared.card.Rank.{Rank}
use Rattle.card_set.specs.declared.card.Rank.TheVariants as ranks
use Rattle.card_set.specs.declared.card.Suit.{Suit}
use Rattle.card_set.specs.declared.card.Suit.TheVariants as suits

-- the number of ranks below this one
abbrev pub ranks_below : Rank → ℕ
ranks_below ranks.Two = 0
ranks_below ranks.Three = 1
ranks_below ranks.Four = 2
ranks_below ranks.Five = 3
ranks_below ranks.Six = 4
ranks_below ranks.Seven = 5
ranks_below ranks.Eight = 6
ranks_below ranks.Nine = 7
ranks_below ranks.Ten = 8
ranks_below ranks.Jack = 9
ranks_below ranks.Queen = 10
ranks_below ranks.King = 11
ranks_below ranks.Ace = 12

-- the number of suits before this one
abbrev pub suits_before : Suit → ℕ
suits_before suits.C = 0
suits_before suits.D = 1
suits_before suits.H = 2
suits_before suits.S = 3

-- the ranks, from the lowest
abbrev pub all_ranks : List Rank
all_ranks =
    ranks.Two ∷ ranks.Three ∷ ranks.Four ∷ ranks.Five ∷ ranks.Six ∷ ranks.Seven ∷ ranks.Eight
    ∷ ranks.Nine
    ∷ ranks.Ten ∷ ranks.Jack ∷ ranks.Queen ∷ ranks.King ∷ ranks.Ace ∷ []

-- the suits, in the order of the deck
abbrev pub all_suits : List Suit
all_suits = suits.C ∷ suits.D ∷ suits.H ∷ suits.S ∷ []

-- the index of a card in the deck, from 0 to 51
abbrev pub deck_index : Card → ℕ
deck_index card = 4 * ranks_below card.rank + suits_before card.suit

-- both are the same card
abbrev pub is_same_card : Card → Card → Bool
is_same_card a b = deck_index a == deck_index b

-- the card at a index of the deck (from 0); after the last index its rank is the ace
unfoldable pub card_with_index : ℕ → Card
card_with_index index = record {
  rank = unwrap_or (slice_get all_ranks (index / 4)) ranks.Ace;
  suit = unwrap_or (slice_get all_suits (index % 4)) suits.S;
}
