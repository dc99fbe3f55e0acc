-- The numbers of the events of a script that is being written.
use Rattle.std.specs.Prelude.{◌≡◌, List, map, length}
use Rattle.std.specs.List.{range_with_len}
use Rattle.play_event.specs.declared.event.Event.{Event}
use Rattle.first_fault.specs.Numbers.{saturated}

-- the events have the numbers 1, 2 and so on
abbrev pub AreNumbered : List Event → Type 0
AreNumbered events =
    map (λ event. event.at) events ≡ map saturated (range_with_len 1 (length events))
