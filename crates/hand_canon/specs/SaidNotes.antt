-- The notes that are said of a hand, as one value: those that are not defaults.
use Rattle.std.specs.Prelude.{◌≡◌, ℕ, ◌-◌, if◌then◌else◌, bytes_eq, List, map, take, slice_index_or, Option, Some, None, option_and_then, option_map}
use Rattle.std.specs.Fmt.{decimal}
use Rattle.chip_ledger.specs.Seat.{seats_of}
use Rattle.hand_canon.specs.AllowedNotes.{non_default_seats}
use Rattle.hand_canon.specs.NoteTable.{texts_of}
use Rattle.hand_canon.specs.declared.notes.Clock.{Clock}
use Rattle.hand_canon.specs.declared.notes.Notes.{Notes}
use Rattle.hand_canon.specs.declared.notes.TextNotes.{TextNotes}
use Rattle.hand_canon.specs.declared.trace.Play.{Play}

-- the notes of a hand, each of which is either said, and then not a default, or not said; there is
-- an entry for the name of each seat
pub record SaidNotes : Type 0 where
  pub names : List (Option (List ℕ))
  pub seats : Option (List ℕ)
  pub seat_count : Option ℕ
  pub hand : Option (List ℕ)
  pub texts : TextNotes
  pub year : Option ℕ
  pub month : Option ℕ
  pub day : Option ℕ
  pub time : Option Clock
  pub zone : Option (List ℕ)

-- the name of a seat's player among names, if it is said
abbrev pub name_said : List (Option (List ℕ)) → ℕ → Option (List ℕ)
name_said names seat = slice_index_or names (seat - 1) None

-- the numbers of this number of seats, unless they are the default ones
abbrev pub numbers_said : ℕ → Option (List ℕ) → Option (List ℕ)
numbers_said count numbers = option_and_then (λ said. non_default_seats count (take count said))
    numbers

-- the name of a hand at a place of its file, from 0; a name that is that place counts as missing
abbrev pub hand_name_noted : ℕ → Option (List ℕ) → Option (List ℕ)
hand_name_noted place None = None
hand_name_noted place (Some text) = if bytes_eq text (decimal place) then None else Some text

-- the notes of this number of seats, at a place of the file, from 0: a note that equals its default
-- counts as missing
abbrev pub said_notes : ℕ → ℕ → Notes → SaidNotes
said_notes place count notes =
    record {
      names = map (name_said notes.names) (seats_of count);
      seats = numbers_said count notes.seats;
      seat_count = notes.seat_count;
      hand = hand_name_noted place notes.hand;
      texts = texts_of notes;
      year = notes.year;
      month = notes.month;
      day = notes.day;
      time = notes.time;
      zone = notes.zone;
    }

-- the notes of this number of seats as a record has them
abbrev pub plain_notes : ℕ → Notes → SaidNotes
plain_notes count notes =
    record {
      names = take count notes.names;
      seats = option_map (take count) notes.seats;
      seat_count = notes.seat_count;
      hand = notes.hand;
      texts = texts_of notes;
      year = notes.year;
      month = notes.month;
      day = notes.day;
      time = notes.time;
      zone = notes.zone;
    }

-- the notes of the play at a place of its file, from 0
abbrev pub notes_of : ℕ → Play → SaidNotes
notes_of place play = said_notes place play.trace.setup.stacks.seats play.hand.notes

-- What is read back of the notes of this number of seats, at a place of their file, from 0, is what
-- is kept of them.
abbrev pub KeepsNotes : (kept : SaidNotes → SaidNotes) → ℕ → ℕ → (notes again : Notes) → Type 0
KeepsNotes kept place count notes again =
    said_notes place count again ≡ kept (said_notes place count notes)
