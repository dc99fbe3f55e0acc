-- The greatest of some numbers.
use Rattle.std.specs.Prelude.{ℕ, List, [], ◌∷◌, max}

-- the greatest of some numbers; 0 if there are none
abbrev pub greatest : List ℕ → ℕ
greatest [] = 0
greatest (n ∷ rest) = max n (greatest rest)
