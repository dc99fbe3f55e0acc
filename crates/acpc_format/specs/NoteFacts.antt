-- Which notes of a hand a line can write: names of players, and the number of the hand.
use Rattle.std.specs.Prelude.{ℕ, Bool, false, not, List, [], ◌∷◌, map, Option, Some, None, is_some}
use Rattle.std.specs.List.{list_any}
use Rattle.hand_canon.specs.NoteTable.{text_named, text_names, texts_of}
use Rattle.hand_canon.specs.declared.notes.Notes.{Notes}
use Rattle.hand_canon.specs.declared.notes.NoteName.{NoteName}
use Rattle.hand_canon.specs.declared.notes.NoteName.TheVariants as names
use Rattle.hand_canon.specs.declared.notes.TextNotes.{TextNotes}
use Rattle.hand_canon.specs.declared.writing.Unspelled.{Unspelled}
use Rattle.hand_canon.specs.declared.writing.Unspelled.TheVariants as facts
use Rattle.acpc_format.specs.Names.{is_spelled_hand, is_spelled_name}

-- there is a name, and a line cannot write it
abbrev pub is_unspelled_name : Option (List ℕ) → Bool
is_unspelled_name None = false
is_unspelled_name (Some name) = not (is_spelled_name name)

-- there is a hand number, and a line cannot write it
abbrev pub is_unspelled_hand : Option (List ℕ) → Bool
is_unspelled_hand None = false
is_unspelled_hand (Some text) = not (is_spelled_hand text)

-- a line can write none of the plain texts
abbrev pub plain_condition : TextNotes → NoteName → Bool × Unspelled
plain_condition texts name = (is_some (text_named texts name), facts.Note name)

-- each case in which a line cannot write a note, with that note: of seats and texts
abbrev pub text_conditions : Notes → List (Bool × Unspelled)
text_conditions notes =
    (list_any is_unspelled_name notes.names, facts.Note names.Players)
    ∷ (is_some notes.seats, facts.Note names.Seats)
    ∷ (is_some notes.seat_count, facts.Note names.SeatCount)
    ∷ (is_unspelled_hand notes.hand, facts.Note names.Hand)
    ∷ map (plain_condition (texts_of notes)) text_names

-- and of the day and its time
abbrev pub time_conditions : Notes → List (Bool × Unspelled)
time_conditions notes =
    (is_some notes.zone, facts.Note names.TimeZone)
    ∷ (is_some notes.year, facts.Note names.Year)
    ∷ (is_some notes.month, facts.Note names.Month)
    ∷ (is_some notes.day, facts.Note names.Day)
    ∷ (is_some notes.time, facts.Note names.Time)
    ∷ []
