-- Bytes that are the packed form of events, together with these events.
use Rattle.std.specs.Prelude.{◌≡◌, ℕ, List}
use Rattle.play_event.specs.declared.event.Event.{Event}
use Rattle.play_event.specs.EventNumbers.{AreEvents}
use Rattle.play_event.specs.PackedForm.{packed_events}

-- the bytes are the packed form of these events, and of no others
pub record PackedScript (bytes : List ℕ) : Type 0 where
  pub events : List Event
  pub fit : AreEvents events
  pub packed : bytes ≡ packed_events events
