-- A field with a text for each seat, separated by bars.
use Rattle.std.specs.Prelude.{ℕ, nat_lt, if◌then◌else◌, List, [], ◌∷◌, ◌++◌}
use Rattle.std.specs.List.{flat_map}
use Rattle.chip_ledger.specs.Seat.{seats_of}

-- a bar before the text of each seat except the first
abbrev pub bar_before : ℕ → List ℕ
bar_before seat = if nat_lt 1 seat then 124 ∷ [] else []

-- the texts of `count` seats
abbrev pub for_seats : (ℕ → List ℕ) → ℕ → List ℕ
for_seats text count = flat_map (λ seat. bar_before seat ++ text seat) (seats_of count)
