-- The points of cards if low cards are good: the greatest number minus the number that their class
-- and ranks make.
use Rattle.std.specs.Prelude.{◌==◌, ◌&&◌, ℕ, ◌-◌, ◌^◌, Bool, List, [], ◌∷◌}
use Rattle.card_set.specs.declared.card.Card.{Card}
use Rattle.card_set.specs.Ranks.{low_ace, ranks_of}
use Rattle.card_set.specs.UpCards.{low_class}
use Rattle.hand_order.specs.Digits.{class_above}

-- the points of their score
abbrev pub low_points : List Card → ℕ
low_points cards = 16 ^ 6 - class_above (low_class cards) (ranks_of low_ace cards)

-- the classes by how many ranks occur four times, three times and twice
abbrev pub low_table : ℕ → ℕ → ℕ → List Bool
low_table fours threes pairs =
    (fours == 0 && threes == 0 && pairs == 0) ∷ (pairs == 1 && threes == 0) ∷ (pairs == 2)
    ∷ (threes == 1 && pairs == 0) ∷ (threes == 1 && pairs == 1) ∷ (fours == 1) ∷ []
