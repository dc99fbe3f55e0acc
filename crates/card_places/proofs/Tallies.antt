-- The count of a seat, among those of all owners.
use Rattle.std.proofs.Common.{◌≡◌, ℕ, ◌≤◌, nat_le, Some, List, count_by, ◌∙◌}
use Rattle.std.proofs.lemmas.Bool.{and_from, le-leb}
use Rattle.play_event.specs.Places.{Place, is_in_group}
use Rattle.card_places.specs.Counted.{AreCounts, count_of}

pub seat_counted : (numbers : List ℕ) (street : ℕ) (placed : List Place) (seat count : ℕ) → 1 ≤ seat → seat ≤ 10 → AreCounts numbers street placed → count ≡ count_of numbers (Some seat) → count ≡ count_by (is_in_group (Some seat) street) placed
seat_counted numbers street placed seat count first last counts is = is ∙ counts (Some seat) (and_from (nat_le 1 seat) (nat_le seat 10) (le-leb 1 seat first) (le-leb seat 10 last))
