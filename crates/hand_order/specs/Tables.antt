-- The tables of classes by how many ranks occur four times, three times and twice, and whether
-- there is a straight and a flush.
use Rattle.std.specs.Prelude.{◌==◌, ◌&&◌, ℕ, Bool, List, [], ◌∷◌}

-- the classes of the high order
abbrev pub high_table : ℕ → ℕ → ℕ → Bool → Bool → List Bool
high_table fours threes pairs straight flush =
    (straight && flush) ∷ (fours == 1) ∷ (threes == 1 && pairs == 1) ∷ flush ∷ straight
    ∷ (threes == 1 && pairs == 0) ∷ (pairs == 2) ∷ (pairs == 1 && threes == 0)
    ∷ (fours == 0 && threes == 0 && pairs == 0) ∷ []
