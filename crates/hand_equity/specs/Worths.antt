-- The strengths of the seats on one board: 0 if a seat has no hand, and otherwise greater for a
-- better hand.
use Rattle.std.specs.Prelude.{ℕ, ◌-◌, ◌≤◌, ◌<◌, ◌==◌, List, Option, Some, None, slice_index, count_by, if◌then◌else◌}
use Rattle.hand_equity.specs.Contest.{Contest}

-- the strength of seat number n
abbrev pub worth_of : List ℕ → ℕ → ℕ
worth_of worths n = slice_index worths (n - 1)

-- how seats compare by their strengths
abbrev pub contest_by : List ℕ → Contest
contest_by worths = record {
  contends = λ seat. (1 ≤ seat) × (0 < worth_of worths seat);
  beats = λ seat other. worth_of worths other < worth_of worths seat;
}

-- how many seats have this strength
abbrev pub seats_with : ℕ → List ℕ → ℕ
seats_with worth worths = count_by (λ other. other == worth) worths

-- the points of a strength: none for 0, and otherwise one less
abbrev pub points_in : ℕ → Option ℕ
points_in worth = if worth == 0 then None else Some (worth - 1)
