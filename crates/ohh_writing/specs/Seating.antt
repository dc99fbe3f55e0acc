-- The numbers of seats at the table, and which of them the format can write.
use Rattle.std.specs.Prelude.{ℕ, ◌+◌, ◌-◌, ◌==◌, ◌&&◌, Bool, true, nat_lt, not, if◌then◌else◌, List, [], ◌∷◌, take, slice_index, Option, Some, None}
use Rattle.std.specs.List.{list_any}

-- no number is repeated
abbrev pub has_no_repeat : List ℕ → Bool
has_no_repeat [] = true
has_no_repeat (number ∷ rest) = not (list_any (λ other. other == number) rest) && has_no_repeat rest

-- 1 if the step from one number to the next falls, else 0
abbrev pub fall : ℕ → ℕ → ℕ
fall number next = if nat_lt next number then 1 else 0

-- the first of some numbers, or this one after the last
abbrev pub first_or : ℕ → List ℕ → ℕ
first_or back [] = back
first_or back (next ∷ rest) = next

-- how many steps fall, from each number to the next, and from the last one back to this
abbrev pub falls : ℕ → List ℕ → ℕ
falls back [] = 0
falls back (number ∷ rest) = fall number (first_or back rest) + falls back rest

-- numbers go round the table once: they differ, and exactly one step falls
abbrev pub is_circular : List ℕ → Bool
is_circular numbers = has_no_repeat numbers && (falls (slice_index numbers 0) numbers == 1)

-- the numbers of this many seats, if they are noted and go round
abbrev pub numbers_spelled : ℕ → Option (List ℕ) → Option (List ℕ)
numbers_spelled count None = None
numbers_spelled count (Some numbers) =
    if is_circular (take count numbers) then Some numbers else None

-- the number of a seat among these, or by default its place
abbrev pub number_among : Option (List ℕ) → ℕ → ℕ
number_among None seat = seat
number_among (Some numbers) seat = slice_index numbers (seat - 1)
