-- Which notes a record may have: texts that are not too long, numbers in their range, a date of the
-- calendar, and no defaults.
use Rattle.std.specs.Prelude.{◌≡◌, ◌≢◌, ℕ, ◌-◌, ◌%◌, ◌≤◌, ◌==◌, ◌&&◌, ◌||◌, Bool, not, if◌then◌else◌, List, length, take, slice_index, slice_index_or, replicate, None, IfSome, Option, Some, bytes_eq, unwrap_or, nat_le, Result, Ok, Err}
use Rattle.std.specs.List.{AllByRecursion, range_with_len}
use Rattle.first_fault.specs.declared.limits.TheConstants.{MOST_TEXT_BYTES}
use Rattle.hand_canon.specs.NoteTable.{no_texts, texts_listed, texts_of}
use Rattle.hand_canon.specs.declared.notes.Clock.{Clock}
use Rattle.hand_canon.specs.declared.notes.Notes.{Notes}
use Rattle.hand_canon.specs.declared.notes.TextNotes.{TextNotes}
use Rattle.chip_ledger.specs.SeatsSaid.{default_name}

-- a number lies between two others, or is one of them
abbrev pub IsWithin : ℕ → ℕ → ℕ → Type 0
IsWithin least most number = (least ≤ number) × (number ≤ most)

-- a text of a note
abbrev pub IsNoteText : List ℕ → Type 0
IsNoteText text = IsWithin 1 MOST_TEXT_BYTES (length text)

-- each of the plain texts of a hand, if it is noted, is a text of a note
abbrev pub AreNoteTexts : TextNotes → Type 0
AreNoteTexts texts = AllByRecursion (λ text. IfSome text IsNoteText) (texts_listed texts)

-- a text of a note that differs from its default
pub record IsUnusualNote (default note : List ℕ) : Type 0 where
  pub text : IsNoteText note
  pub said : note ≢ default

-- the name of a seat's player
abbrev pub IsName : ℕ → List ℕ → Type 0
IsName seat = IsUnusualNote (default_name seat)

-- the numbers of this number of seats at the table; they are not 1, 2 and so on, which is the
-- default
pub record AreSeatNumbers (count : ℕ) (numbers : List ℕ) : Type 0 where
  pub each : (seat : ℕ) → 1 ≤ seat → seat ≤ count → IsWithin 1 255 (slice_index numbers (seat - 1))
  pub no_more : (index : ℕ) → count ≤ index → slice_index numbers index ≡ 0
  pub said : take count numbers ≢ range_with_len 1 count

-- the number of seats of the table of a hand with this number of seats
pub record IsSeatCount (count number : ℕ) : Type 0 where
  pub range : IsWithin 1 255 number
  pub said : number ≢ count

-- a year has 29 February
abbrev pub is_leap_year : ℕ → Bool
is_leap_year year = (year % 4 == 0) && (not (year % 100 == 0) || (year % 400 == 0))

-- how many days a month of a year has
abbrev pub days_in_month : ℕ → ℕ → ℕ
days_in_month year month =
    if month == 2 then (if is_leap_year year then 29 else 28)
    else (if (month == 4) || (month == 6) || (month == 9) || (month == 11) then 30 else 31)

-- the month of a year has this day
abbrev pub IsDayOf : ℕ → ℕ → ℕ → Type 0
IsDayOf year month day = day ≤ days_in_month year month

-- a time of day
pub record IsTime (time : Clock) : Type 0 where
  pub hour : time.hour ≤ 23
  pub minute : time.minute ≤ 59
  pub second : time.second ≤ 59
  pub nano : time.nano ≤ 999999999

-- the notes of a hand with this number of seats
pub record AreAllowed (count : ℕ) (notes : Notes) : Type 0 where
  pub names : (seat : ℕ) → 1 ≤ seat → seat ≤ count
      → IfSome (slice_index_or notes.names (seat - 1) None) (IsName seat)
  pub no_more_names : (index : ℕ) → count ≤ index → slice_index_or notes.names index None ≡ None
  pub seats : IfSome notes.seats (AreSeatNumbers count)
  pub seat_count : IfSome notes.seat_count (IsSeatCount count)
  pub hand : IfSome notes.hand IsNoteText
  pub texts : AreNoteTexts (texts_of notes)
  pub year : IfSome notes.year (IsWithin 1 9999)
  pub month : IfSome notes.month (IsWithin 1 12)
  pub day : IfSome notes.day (IsWithin 1 31)
  pub date :
      IfSome notes.year
      (λ year. IfSome notes.month (λ month. IfSome notes.day (IsDayOf year month)))
  pub time : IfSome notes.time IsTime
  pub zone : IfSome notes.zone IsNoteText

-- the name of a seat's player, or its default if none is said
abbrev pub name_written : Notes → ℕ → List ℕ
name_written notes seat = unwrap_or (slice_index_or notes.names (seat - 1) None) (default_name seat)

-- a note that equals its default is left out, and so is an empty text
abbrev pub noted : List ℕ → List ℕ → Option (List ℕ)
noted default text = if (length text == 0) || bytes_eq text default then None else Some text

-- the note in a text of at most 255 bytes, or this fault if it has more
abbrev pub noted_or : {F : Type 0} → F → List ℕ → List ℕ → Result (Option (List ℕ)) F
noted_or fault default text =
    if nat_le (length text) MOST_TEXT_BYTES then Ok (noted default text) else Err fault

-- numbers of seats, left out if they are the default ones from 1 on
abbrev pub non_default_seats : ℕ → List ℕ → Option (List ℕ)
non_default_seats count numbers =
    if bytes_eq numbers (range_with_len 1 count) then None else Some numbers

-- there are no notes
pub record AreNoNotes (notes : Notes) : Type 0 where
  pub names : notes.names ≡ replicate 10 None
  pub seats : notes.seats ≡ None
  pub seat_count : notes.seat_count ≡ None
  pub hand : notes.hand ≡ None
  pub texts : texts_of notes ≡ no_texts
  pub year : notes.year ≡ None
  pub month : notes.month ≡ None
  pub day : notes.day ≡ None
  pub time : notes.time ≡ None
  pub zone : notes.zone ≡ None
