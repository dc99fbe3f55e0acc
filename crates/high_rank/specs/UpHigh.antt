-- The points of up-cards in their high order.
use Rattle.std.specs.Prelude.{◌==◌, ◌&&◌, ℕ, ◌-◌, Bool, List, [], ◌∷◌}
use Rattle.card_set.specs.declared.card.Card.{Card}
use Rattle.card_set.specs.Ranks.{high_ace, ranks_of}
use Rattle.card_set.specs.UpCards.{up_high_class}
use Rattle.hand_order.specs.Digits.{class_above}

-- the points of their score
abbrev pub up_high_points : List Card → ℕ
up_high_points cards = class_above (4 - up_high_class cards) (ranks_of high_ace cards)

-- the classes by how many ranks occur four times, three times and twice
abbrev pub up_high_table : ℕ → ℕ → ℕ → List Bool
up_high_table fours threes pairs =
    (fours == 1) ∷ (threes == 1 && pairs == 0) ∷ (pairs == 2) ∷ (pairs == 1 && threes == 0)
    ∷ (fours == 0 && threes == 0 && pairs == 0) ∷ []
