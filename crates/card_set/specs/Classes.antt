-- The classes of hands by how often their ranks occur, and how a table of classes orders hands.
use Rattle.std.specs.Prelude.{◌≡◌, ◌<◌, ◌==◌, ◌&&◌, ℕ, ◌+◌, Bool, true, false, ◌⊎◌, List, [], ◌∷◌}
use Rattle.card_set.specs.declared.card.Card.{Card}
use Rattle.card_set.specs.declared.card.Rank.{Rank}
use Rattle.card_set.specs.Ranks.{ranks_occurring}

-- one rank occurs four times
abbrev pub has_four_of_a_kind : (Rank → ℕ) → List Card → Bool
has_four_of_a_kind height cards = ranks_occurring height cards 4 == 1

-- one rank occurs three times and another twice
abbrev pub has_full_house : (Rank → ℕ) → List Card → Bool
has_full_house height cards =
    ranks_occurring height cards 3 == 1 && ranks_occurring height cards 2 == 1

-- one rank occurs three times and none twice
abbrev pub has_three_of_a_kind : (Rank → ℕ) → List Card → Bool
has_three_of_a_kind height cards =
    ranks_occurring height cards 3 == 1 && ranks_occurring height cards 2 == 0

-- two ranks occur twice
abbrev pub has_two_pair : (Rank → ℕ) → List Card → Bool
has_two_pair height cards = ranks_occurring height cards 2 == 2

-- one rank occurs twice and none three times
abbrev pub has_one_pair : (Rank → ℕ) → List Card → Bool
has_one_pair height cards =
    ranks_occurring height cards 2 == 1 && ranks_occurring height cards 3 == 0

-- no rank occurs more than once
abbrev pub has_no_pair : (Rank → ℕ) → List Card → Bool
has_no_pair height cards =
    ranks_occurring height cards 4 == 0 && ranks_occurring height cards 3 == 0
    && ranks_occurring height cards 2 == 0

-- in a list of classes from the best to the worst, the number of classes before the first that a
-- hand has
abbrev pub classes_above : List Bool → ℕ
classes_above [] = 0
classes_above (true ∷ rest) = 0
classes_above (false ∷ rest) = 1 + classes_above rest

-- at the first place where the lists differ, the left one is lower
abbrev pub IsLower : List ℕ → List ℕ → Type 0
IsLower [] ys = ⊥
IsLower (x ∷ xs) [] = ⊥
IsLower (x ∷ xs) (y ∷ ys) = (x < y) ⊎ ((x ≡ y) × IsLower xs ys)

-- a hand is weaker than another, if high ranks are good: its class is worse, or the class is the
-- same and the first rank that differs is lower
abbrev pub IsBelow : (List Card → ℕ) → (List Card → List ℕ) → List Card → List Card → Type 0
IsBelow class list a b = (class b < class a) ⊎ ((class a ≡ class b) × IsLower (list a) (list b))

-- a hand is weaker than another, if low ranks are good: its class is worse, or the class is the
-- same and the first rank that differs is higher
abbrev pub IsBelowLow : (List Card → ℕ) → (List Card → List ℕ) → List Card → List Card → Type 0
IsBelowLow class list a b = (class b < class a) ⊎ ((class a ≡ class b) × IsLower (list b) (list a))
