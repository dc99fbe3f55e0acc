-- The ranks of a row, as a list.
use Rattle.std.specs.Prelude.{ℕ, ◌==◌, List, filter, slice_index, take}
use Rattle.card_set.specs.Ranks.{falling_heights}
use Rattle.betting_numbers.specs.declared.heights.Heights.{Heights}

-- the ranks, in order
abbrev pub heights_in : Heights → List ℕ
heights_in row = take row.len row.heights

-- the heights that are counted this many times, highest first
abbrev pub counted : List ℕ → ℕ → List ℕ
counted counts n = filter (λ h. slice_index counts h == n) falling_heights
