-- The table of notes: the name of each, and which of them are plain texts. What is the same for all
-- plain texts is defined by this table, and not text by text.
use Rattle.std.specs.Prelude.{ℕ, List, [], ◌∷◌, codes, map, replicate, Option, None}
use Rattle.hand_canon.specs.declared.notes.NoteName.{NoteName}
use Rattle.hand_canon.specs.declared.notes.NoteName.TheVariants as names
use Rattle.hand_canon.specs.declared.notes.Notes.{Notes}
use Rattle.hand_canon.specs.declared.notes.TextNotes.{TextNotes}

-- the printed name of a note
abbrev pub note_text : NoteName → List ℕ
note_text names.Players = codes "players"
note_text names.Seats = codes "seats"
note_text names.SeatCount = codes "seat_count"
note_text names.Hand = codes "hand"
note_text names.Table = codes "table"
note_text names.Venue = codes "venue"
note_text names.Currency = codes "currency"
note_text names.TimeZone = codes "time_zone"
note_text names.Year = codes "year"
note_text names.Month = codes "month"
note_text names.Day = codes "day"
note_text names.Time = codes "time"

-- the notes that are plain texts and empty by default
abbrev pub text_names : List NoteName
text_names = names.Table ∷ names.Venue ∷ names.Currency ∷ []

-- all notes, in the order in which they are compared
abbrev pub note_names : List NoteName
note_names =
    names.Players ∷ names.Seats ∷ names.SeatCount ∷ names.Hand ∷ names.Table ∷ names.Venue
    ∷ names.Currency ∷ names.TimeZone ∷ names.Year ∷ names.Month ∷ names.Day ∷ names.Time ∷ []

-- the text of the note with this name; a note that is no plain text has none
abbrev pub text_named : TextNotes → NoteName → Option (List ℕ)
text_named texts names.Table = texts.table
text_named texts names.Venue = texts.venue
text_named texts names.Currency = texts.currency
text_named texts name = None

-- all texts, in the order of their names
abbrev pub texts_listed : TextNotes → List (Option (List ℕ))
texts_listed texts = map (text_named texts) text_names

-- no texts
abbrev pub no_texts : TextNotes
no_texts = record { table = None; venue = None; currency = None }

-- the plain texts among the notes of a hand
abbrev pub texts_of : Notes → TextNotes
texts_of notes = record { table = notes.table; venue = notes.venue; currency = notes.currency }

-- the notes that are these texts and nothing else
abbrev pub notes_with : TextNotes → Notes
notes_with texts =
    record {
      names = replicate 10 None;
      seats = None;
      seat_count = None;
      hand = None;
      table = texts.table;
      venue = texts.venue;
      currency = texts.currency;
      year = None;
      month = None;
      day = None;
      time = None;
      zone = None;
    }
