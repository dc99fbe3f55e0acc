-- The lowest ranks of each class of razz: those that occur more often, and the others.
use Rattle.std.specs.Prelude.{◌≡◌, ◌==◌, ◌&&◌, ◌||◌, not, ℕ, ◌+◌, ◌-◌, Bool, List, [], ◌++◌, length, nat_le, if◌then◌else◌}
use Rattle.std.specs.List.{list_any}
use Rattle.std.specs.Int.{bit_at}
use Rattle.hand_order.specs.Lowest.{lowest}
use Rattle.low_rank.specs.declared.razz.SuitMasks.{SuitMasks}

-- how often the ranks occur that a class names first
abbrev pub often : ℕ → ℕ
often class =
    if (class == 0) || ((class == 1) || (class == 2)) then 2
    else (if (class == 3) || (class == 4) then 3 else 4)

-- how many ranks these are
abbrev pub often_ranks : ℕ → ℕ
often_ranks class = if class == 0 then 0 else (if class == 2 then 2 else 1)

-- how often the others occur
abbrev pub seldom : ℕ → ℕ
seldom class = if class == 4 then 2 else 1

-- how many ranks these are
abbrev pub seldom_ranks : ℕ → ℕ
seldom_ranks class =
    if class == 0 then 5 else (if class == 1 then 3 else (if class == 3 then 2 else 1))

-- the place of a height in a mask: bit 12 is the ace, and bit 0 the two
abbrev pub place_of : ℕ → ℕ
place_of height = if height == 1 then 12 else height - 2

-- how many suits have a height
abbrev pub low_count : SuitMasks → ℕ → ℕ
low_count masks height =
    bit_at masks.clubs (place_of height) + bit_at masks.diamonds (place_of height)
    + bit_at masks.hearts (place_of height) + bit_at masks.spades (place_of height)

-- the height is one of these
abbrev pub is_height_of : List ℕ → ℕ → Bool
is_height_of heights height = list_any (λ other. other == height) heights

-- the height occurs often enough, and is not among the others
abbrev pub is_free : (ℕ → ℕ) → ℕ → List ℕ → ℕ → Bool
is_free times least others height = nat_le least (times height) && not (is_height_of others height)

-- a number of the lowest heights of ranks that pass a test, the highest of them first
unfoldable pub lowest_ranks : (ℕ → Bool) → ℕ → List ℕ
lowest_ranks has many = lowest has 13 1 many

-- a number of the lowest ranks that occur this often
abbrev pub first_ranks : (ℕ → ℕ) → ℕ → ℕ → List ℕ
first_ranks times least many = lowest_ranks (is_free times least []) many

-- and of the other ranks, a number of the lowest that occur as often as they have to
abbrev pub both_ranks : (ℕ → ℕ) → ℕ → ℕ → ℕ → ℕ → List ℕ
both_ranks times least many other_least other_many =
    first_ranks times least many
    ++ lowest_ranks (is_free times other_least (first_ranks times least many)) other_many

-- the lowest ranks of a class
abbrev pub class_ranks : (ℕ → ℕ) → ℕ → List ℕ
class_ranks times class =
    both_ranks times (often class) (often_ranks class) (seldom class) (seldom_ranks class)

-- there are as many of them as a hand of the class has
abbrev pub HasClass : (ℕ → ℕ) → ℕ → Type 0
HasClass times class = length (class_ranks times class) ≡ often_ranks class + seldom_ranks class
