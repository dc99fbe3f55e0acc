-- The places by street, then by owner, then in the order of dealing.
use Rattle.std.specs.Prelude.{ℕ, List, [], ◌∷◌, ◌++◌, map, flat_map, Option, Some, None, IsSome, IfSome}
use Rattle.std.specs.List.{range_with_len}
use Rattle.play_event.specs.declared.code.Code.{Code}
use Rattle.play_event.specs.declared.played.Place as rows
use Rattle.play_event.specs.Games.{street_count}
use Rattle.play_event.specs.Places.{Place, group_of}
use Rattle.play_event.specs.Played.{IsPlace}
use Rattle.play_event.specs.Trace.{traced_place}

-- the places of `count` seats, from seat `first` on
abbrev pub on_seats : List Place → ℕ → (first count : ℕ) → List Place
on_seats placed street first count =
    flat_map (group_of placed street) (map Some (range_with_len first count))

-- the places of the seats and the board
abbrev pub on_street : ℕ → List Place → ℕ → List Place
on_street seats placed street =
    flat_map (group_of placed street) (map Some (range_with_len 1 seats) ++ None ∷ [])

-- the places of `count` streets, from street `first` on
abbrev pub on_streets : ℕ → List Place → (first count : ℕ) → List Place
on_streets seats placed first count = flat_map (on_street seats placed) (range_with_len first count)

-- all places
abbrev pub ordered : Code → ℕ → List Place → List Place
ordered code seats placed = on_streets seats placed 1 (street_count code)

-- a row is what the trace keeps of a place
pub record IsPlaceOf (row : rows.Place) (place : Option Place) : Type 0 where
  pub there : IsSome place
  pub same : IfSome place (λ p. IsPlace row (traced_place p))
