-- Which notes the format keeps: numbers of seats that go round the table once, a complete moment,
-- and all other notes.
use Rattle.std.specs.Prelude.{ℕ, List, if◌then◌else◌, Option, Some, None, option_and_then, option_map, codes}
use Rattle.ohh_writing.specs.Moment.{moment_said}
use Rattle.ohh_writing.specs.Seating.{is_circular}
use Rattle.hand_canon.specs.declared.notes.Moment.{Moment}
use Rattle.hand_canon.specs.SaidNotes.{SaidNotes}

-- numbers of seats that go round
abbrev pub numbers_round : List ℕ → Option (List ℕ)
numbers_round numbers = if is_circular numbers then Some numbers else None

-- the moment of the notes, if it is complete and in the zone UTC
abbrev pub moment_in_notes : SaidNotes → Option Moment
moment_in_notes notes = moment_said notes.year notes.month notes.day notes.time notes.zone

-- the notes that the format can write
abbrev pub kept_in_ohh : SaidNotes → SaidNotes
kept_in_ohh notes =
    record {
      names = notes.names;
      seats = option_and_then numbers_round notes.seats;
      seat_count = notes.seat_count;
      hand = notes.hand;
      texts = notes.texts;
      year = option_map (λ moment. moment.day.year) (moment_in_notes notes);
      month = option_map (λ moment. moment.day.month) (moment_in_notes notes);
      day = option_map (λ moment. moment.day.day) (moment_in_notes notes);
      time = option_map (λ moment. moment.time) (moment_in_notes notes);
      zone = option_map (λ moment. codes "UTC") (moment_in_notes notes);
    }
