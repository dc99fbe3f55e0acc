-- Which event comes next, from the answers of the cards and of the betting.
use Rattle.std.specs.Prelude.{ℕ, Option, Some, None}
use Rattle.std.specs.Option.{option_map}
use Rattle.play_event.specs.declared.event.Kind.{Kind}
use Rattle.play_event.specs.Said.{Said, kind_said}
use Rattle.betting_numbers.specs.declared.targeting.Targets.{Targets}
use Rattle.hand_gen.specs.Coming.{Coming, board_of, hole_of}
use Rattle.hand_gen.specs.HandSource.{HandSource}

-- this number of cards is dealt to an owner: to a seat or to the board
abbrev pub dealt_to : Option ℕ → ℕ → HandSource → Coming
dealt_to (Some seat) count stock = hole_of count stock seat
dealt_to None count stock = board_of count stock

-- an event that comes, if there is one
abbrev pub event_said : Option Kind → Option Said
event_said kind = option_map kind_said kind

-- the lowest and the highest target, if there are any
abbrev pub ends_said : Option Targets → Option (ℕ × ℕ)
ends_said targets = option_map (λ (t : Targets). (t.least, t.greatest)) targets
