-- The points of the seats, as numbers.
use Rattle.std.specs.Prelude.{ℕ, ◌-◌, Option, None, slice_index_or}
use Rattle.std.specs.Option.{option_map}
use Rattle.hand_order.specs.declared.order.Score.{Score}
use Rattle.showdown_split.specs.declared.scores.Scores.{Scores}

-- the points of seat number n; none if it has no hand
abbrev pub points_of : Scores → ℕ → Option ℕ
points_of scores n =
    option_map (λ (s : Score). s.points) (slice_index_or scores.scores (n - 1) None)
