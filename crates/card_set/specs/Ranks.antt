-- How high ranks are, and how often they occur among cards.
use Rattle.std.specs.Prelude.{ℕ, ◌==◌, Bool, false, List, [], ◌∷◌, ◌++◌, length, filter, count_by}
use Rattle.std.specs.List.{list_all}
use Rattle.card_set.specs.declared.card.Card.{Card}
use Rattle.card_set.specs.declared.card.Rank.{Rank}
use Rattle.card_set.specs.declared.card.Rank.TheVariants as ranks
use Rattle.card_set.specs.Deck.{suits_before}

-- the height of a rank when the ace is high
abbrev pub high_ace : Rank → ℕ
high_ace ranks.Two = 2
high_ace ranks.Three = 3
high_ace ranks.Four = 4
high_ace ranks.Five = 5
high_ace ranks.Six = 6
high_ace ranks.Seven = 7
high_ace ranks.Eight = 8
high_ace ranks.Nine = 9
high_ace ranks.Ten = 10
high_ace ranks.Jack = 11
high_ace ranks.Queen = 12
high_ace ranks.King = 13
high_ace ranks.Ace = 14

-- the height of a rank when the ace is low
abbrev pub low_ace : Rank → ℕ
low_ace ranks.Two = 2
low_ace ranks.Three = 3
low_ace ranks.Four = 4
low_ace ranks.Five = 5
low_ace ranks.Six = 6
low_ace ranks.Seven = 7
low_ace ranks.Eight = 8
low_ace ranks.Nine = 9
low_ace ranks.Ten = 10
low_ace ranks.Jack = 11
low_ace ranks.Queen = 12
low_ace ranks.King = 13
low_ace ranks.Ace = 1

-- all heights, from the greatest
unfoldable pub falling_heights : List ℕ
falling_heights = 14 ∷ 13 ∷ 12 ∷ 11 ∷ 10 ∷ 9 ∷ 8 ∷ 7 ∷ 6 ∷ 5 ∷ 4 ∷ 3 ∷ 2 ∷ 1 ∷ []

-- the number of cards of this height
unfoldable pub times : (Rank → ℕ) → List Card → ℕ → ℕ
times height cards h = count_by (λ card. height card.rank == h) cards

-- the heights that exactly `n` of the cards have, highest first
unfoldable pub occurring : (Rank → ℕ) → List Card → ℕ → List ℕ
occurring height cards n = filter (λ h. times height cards h == n) falling_heights

-- the number of ranks that occur exactly `n` times
abbrev pub ranks_occurring : (Rank → ℕ) → List Card → ℕ → ℕ
ranks_occurring height cards n = length (occurring height cards n)

-- the different heights of the cards: those that occur more often first, then the higher ones
unfoldable pub ranks_of : (Rank → ℕ) → List Card → List ℕ
ranks_of height cards =
    occurring height cards 4
    ++ (occurring height cards 3 ++ (occurring height cards 2 ++ occurring height cards 1))

-- the cards are all of one suit: each has the suit of the first
abbrev pub is_one_suit : List Card → Bool
is_one_suit [] = false
is_one_suit (card ∷ rest) =
    list_all (λ other. suits_before other.suit == suits_before card.suit) (card ∷ rest)
