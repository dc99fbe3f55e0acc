-- Which seats have shown or mucked, and whether showing is over.
use Rattle.std.specs.Prelude.{ℕ, Bool, false, ◌&&◌, ◌||◌, ◌==◌, not}
use Rattle.std.specs.List.{list_any}
use Rattle.play_event.specs.declared.setup.Setup.{Setup}
use Rattle.play_event.specs.Past.{Past, Resolved, Dealt, Boarded, Moved, Discarded, Shown, Mucked, moves_of}
use Rattle.play_event.specs.Seats.{is_live, all_seats}

-- an event is a show of a seat
abbrev pub is_show_of : ℕ → Resolved → Bool
is_show_of seat (Shown on owner cards) = owner == seat
is_show_of seat (Mucked on owner) = false
is_show_of seat (Dealt on owner cards) = false
is_show_of seat (Boarded on cards) = false
is_show_of seat (Moved move) = false
is_show_of seat (Discarded on owner cards) = false

-- an event is a muck of a seat
abbrev pub is_muck_of : ℕ → Resolved → Bool
is_muck_of seat (Mucked on owner) = owner == seat
is_muck_of seat (Shown on owner cards) = false
is_muck_of seat (Dealt on owner cards) = false
is_muck_of seat (Boarded on cards) = false
is_muck_of seat (Moved move) = false
is_muck_of seat (Discarded on owner cards) = false

-- a seat showed
abbrev pub has_shown : Past → ℕ → Bool
has_shown past seat = list_any (is_show_of seat) past

-- a seat mucked
abbrev pub has_mucked : Past → ℕ → Bool
has_mucked past seat = list_any (is_muck_of seat) past

-- a seat still has to show or muck: it is live and has done neither
abbrev pub has_to_show : Past → ℕ → Bool
has_to_show past seat =
    is_live (moves_of past) seat && not (has_shown past seat || has_mucked past seat)

-- some seat still has to show or muck
abbrev pub is_show_due : Setup → Past → Bool
is_show_due setup past = list_any (has_to_show past) (all_seats setup)
