-- Events by what they do with cards.
use Rattle.std.specs.Prelude.{Bool, true, false}
use Rattle.play_event.specs.Said as said
use Rattle.play_event.specs.Said.{Said}

-- an event is a deal
abbrev pub is_deal : Said → Bool
is_deal (said.Hole seat cards) = true
is_deal (said.Board cards) = true
is_deal _ = false

-- an event is a discard
abbrev pub is_discard : Said → Bool
is_discard (said.Discard seat cards) = true
is_discard _ = false
