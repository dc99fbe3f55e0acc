-- Events of cards: those that are not moves.
use Rattle.std.specs.Prelude.{Bool, true, false}
use Rattle.play_event.specs.Past.{Resolved, Dealt, Boarded, Moved, Discarded, Shown, Mucked}
use Rattle.play_event.specs.Said as said
use Rattle.play_event.specs.Said.{Said}

-- an event that took place is not a move
abbrev pub is_card_event : Resolved → Bool
is_card_event (Moved move) = false
is_card_event (Dealt street seat cards) = true
is_card_event (Boarded street cards) = true
is_card_event (Discarded street seat cards) = true
is_card_event (Shown street seat cards) = true
is_card_event (Mucked street seat) = true

-- an event is a deal, a discard, a show or a muck
abbrev pub is_card_said : Said → Bool
is_card_said (said.Hole seat cards) = true
is_card_said (said.Board cards) = true
is_card_said (said.Fold named) = false
is_card_said (said.Call named stated) = false
is_card_said (said.Raise named amount) = false
is_card_said (said.BringIn named) = false
is_card_said (said.Discard seat cards) = true
is_card_said (said.Show seat cards) = true
is_card_said (said.Muck seat) = true

-- an event is a show or a muck
abbrev pub is_showing : Said → Bool
is_showing (said.Show seat cards) = true
is_showing (said.Muck seat) = true
is_showing _ = false
