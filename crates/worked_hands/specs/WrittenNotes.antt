-- Notes that are written out, one fact after another.
use Rattle.std.specs.Prelude.{ℕ, List, ◌∷◌, Option, Some, None, replicate}
use Rattle.hand_canon.specs.NoteTable.{no_texts, notes_with}
use Rattle.hand_canon.specs.declared.notes.Notes.{Notes}

-- nothing is noted
abbrev pub no_notes : Notes
no_notes = notes_with no_texts

-- the table has a name
abbrev pub at_table : List ℕ → Notes
at_table text = record no_notes { table = Some text }

-- the first two seats and the fourth have these names
abbrev pub named : (first second fourth : Option (List ℕ)) → Notes
named first second fourth =
    record no_notes { names = first ∷ second ∷ None ∷ fourth ∷ replicate 6 None }

-- three seats have these numbers at the table
abbrev pub numbered : (first second third : ℕ) → Notes
numbered first second third =
    record no_notes { seats = Some (first ∷ second ∷ third ∷ replicate 7 0) }

-- the table has this number of seats
abbrev pub seated : ℕ → Notes
seated count = record no_notes { seat_count = Some count }

-- a date; each part may be missing
abbrev pub dated : (year month day : Option ℕ) → Notes
dated year month day = record no_notes { year = year; month = month; day = day }

-- a time of day
abbrev pub timed : (hour minute second nano : ℕ) → Notes
timed hour minute second nano =
    record no_notes
    { time = Some (record { hour = hour; minute = minute; second = second; nano = nano }) }
