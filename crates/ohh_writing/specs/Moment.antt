-- When a hand was played, as the format writes it: a date and a time in the zone UTC.
use Rattle.std.specs.Prelude.{ℕ, zero, suc, ◌+◌, ◌/◌, ◌%◌, ◌==◌, bytes_eq, if◌then◌else◌, List, [], ◌∷◌, ◌++◌, codes, Option, Some, None}
use Rattle.hand_canon.specs.declared.notes.Clock.{Clock}
use Rattle.hand_canon.specs.declared.notes.Notes.{Notes}
use Rattle.hand_canon.specs.declared.notes.Moment.{Moment}

-- the moment, if the zone is UTC
abbrev pub moment_in : ℕ → ℕ → ℕ → Clock → List ℕ → Option Moment
moment_in year month day time zone =
    if bytes_eq zone (codes "UTC")
    then Some (record { day = record { year = year; month = month; day = day }; time = time })
    else None

-- the moment, if all five are given and the zone is UTC
abbrev pub moment_said : Option ℕ → Option ℕ → Option ℕ → Option Clock → Option (List ℕ)
    → Option Moment
moment_said (Some year) (Some month) (Some day) (Some time) (Some zone) =
    moment_in year month day time zone
moment_said _ _ _ _ _ = None

-- the moment of the notes, if it can be written
abbrev pub moment_of : Notes → Option Moment
moment_of notes = moment_said notes.year notes.month notes.day notes.time notes.zone

-- a number as its last decimal digits, this many
abbrev pub by_digits : ℕ → ℕ → List ℕ
by_digits zero number = []
by_digits (suc count) number = by_digits count (number / 10) ++ (48 + number % 10) ∷ []

-- a fraction of a second as nine digits after a point, if it is not 0
abbrev pub fraction_text : ℕ → List ℕ
fraction_text nano = if nano == 0 then [] else codes "." ++ by_digits 9 nano

-- a time, hh:mm:ss
abbrev pub time_text : Clock → List ℕ
time_text time =
    by_digits 2 time.hour
    ++ (codes ":"
    ++ (by_digits 2 time.minute
    ++ (codes ":" ++ (by_digits 2 time.second ++ fraction_text time.nano))))

-- a moment, YYYY-MM-DDThh:mm:ssZ
abbrev pub moment_text : Moment → List ℕ
moment_text moment =
    by_digits 4 moment.day.year
    ++ (codes "-" ++ (by_digits 2 moment.day.month ++ (codes "-" ++ (by_digits 2 moment.day.day
    ++ (codes "T" ++ (time_text moment.time ++ codes "Z"))))))
