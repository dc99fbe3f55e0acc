-- How many cards of one street each owner (a seat or the board) was dealt.
use Rattle.std.specs.Prelude.{◌≡◌, ℕ, true, List, slice_index, count_by, Option, Some, None}
use Rattle.play_event.specs.Places.{Place, is_in_group}
use Rattle.card_places.specs.Room.{is_owner}

-- the index of an owner's count: 0 for the board, else the number of the seat
abbrev pub owner_index : Option ℕ → ℕ
owner_index (Some seat) = seat
owner_index None = 0

-- the count of an owner
abbrev pub count_of : List ℕ → Option ℕ → ℕ
count_of numbers owner = slice_index numbers (owner_index owner)

-- the count of each owner is its number of cards of the street
abbrev pub AreCounts : List ℕ → ℕ → List Place → Type 0
AreCounts numbers street placed =
    (owner : Option ℕ) → is_owner 10 owner ≡ true
    → count_of numbers owner ≡ count_by (is_in_group owner street) placed
