-- The lowest ranks of a mask, with the ace as the lowest.
use Rattle.std.specs.Prelude.{ℕ, zero, suc, ◌+◌, ◌-◌, ◌==◌, Bool, List, [], ◌∷◌, ◌++◌, if◌then◌else◌}
use Rattle.std.specs.Int.{bit_at}

-- the mask has the rank of this height: bit 12 is the ace, and bit 0 the two
abbrev pub has_height : ℕ → ℕ → Bool
has_height mask height = bit_at mask (if height == 1 then 12 else height - 2) == 1

-- a number of the lowest heights that pass a test, the highest of them first; the last two numbers
-- are how many heights are tried and the first of them
abbrev pub lowest : (ℕ → Bool) → ℕ → ℕ → ℕ → List ℕ
lowest has zero from need = []
lowest has (suc heights) from need =
    if need == 0
    then []
    else (if has from
    then lowest has heights (from + 1) (need - 1) ++ from ∷ []
    else lowest has heights (from + 1) need)
