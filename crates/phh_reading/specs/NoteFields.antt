-- The notes in the fields of a hand, read in this order. A note that equals its default counts as
-- none.
use Rattle.std.specs.Prelude.{◌≡◌, ℕ, ◌-◌, ◌≤◌, ◌==◌, Bool, true, nat_le, ◌&&◌, if◌then◌else◌, List, [], take, replicate, slice_index_or, Option, Some, None, IfSome, option_map, Result, Ok}
use Rattle.std.specs.Fmt.{decimal, signed_decimal}
use Rattle.toml.specs.Data.{Data, string, integer, datetime, Members}
use Rattle.toml_datetime.specs.declared.datetime.Date.{Date}
use Rattle.toml_datetime.specs.declared.datetime.Offset.{Offset}
use Rattle.toml_datetime.specs.declared.datetime.Time.{Time}
use Rattle.first_fault.specs.declared.limits.Quantity.TheVariants as quantities
use Rattle.hand_canon.specs.declared.notes.Clock.{Clock}
use Rattle.hand_canon.specs.AllowedNotes.{IsName, days_in_month, noted_or, non_default_seats}
use Rattle.hand_canon.specs.SaidNotes.{SaidNotes}
use Rattle.first_fault.specs.Reading.{◌>>=◌, each_from, read_if, or_none}
use Rattle.phh_reading.specs.declared.field_fault.FieldKey.TheVariants as keys
use Rattle.phh_reading.specs.declared.field_fault.FieldFaultKind.TheVariants as whats
use Rattle.phh_reading.specs.declared.field_fault.FieldLocation.{FieldLocation}
use Rattle.phh_reading.specs.declared.field_fault.FieldFault.{FieldFault}
use Rattle.phh_reading.specs.declared.date.PartialDate.{PartialDate}
use Rattle.phh_reading.specs.declared.labels.Labels.{Labels}
use Rattle.phh_reading.specs.declared.seating.Seating.{Seating}
use Rattle.phh_reading.specs.Fields.{key_place, item_place, wrong, field_value, text_said, items_said, number_said}
use Rattle.chip_ledger.specs.SeatsSaid.{default_name}

-- who sits where, with plain lists
pub record PlainSeating : Type 0 where
  pub names : List (Option (List ℕ))
  pub seats : Option (List ℕ)
  pub seat_count : Option ℕ

-- who sits where at a table with this number of seats
abbrev pub plain_seating : ℕ → Seating → PlainSeating
plain_seating count seating =
    record {
      names = take count seating.names;
      seats = option_map (take count) seating.seats;
      seat_count = seating.seat_count;
    }

-- the names of the players of this many seats, and none after them
pub record AreNames (count : ℕ) (names : List (Option (List ℕ))) : Type 0 where
  pub each : (seat : ℕ) → 1 ≤ seat → seat ≤ count
      → IfSome (slice_index_or names (seat - 1) None) (IsName seat)
  pub no_more : (index : ℕ) → count ≤ index → slice_index_or names index None ≡ None

-- the text of a note with this default; it is of at most 255 bytes
unfoldable pub note_said : List ℕ → FieldLocation → List ℕ → Result (Option (List ℕ)) FieldFault
note_said default place text =
    noted_or (record { what = whats.TooMany quantities.TextBytes; place = place }) default text

-- a text with this default
unfoldable pub text_note_said : List ℕ → FieldLocation → Data → Result (Option (List ℕ)) FieldFault
text_note_said default place value = text_said place value >>= note_said default place

-- a text with this default; a whole number counts as its decimal text
unfoldable pub label_said : List ℕ → FieldLocation → Data → Result (Option (List ℕ)) FieldFault
label_said default place (string text) = note_said default place text
label_said default place (integer number) = note_said default place (signed_decimal number)
label_said default place _ = wrong whats.WrongType place

-- the names of the players, one per value
abbrev pub names_from : List Data → Result (List (Option (List ℕ))) FieldFault
names_from items =
    each_from (λ n value. text_note_said (default_name n) (item_place keys.Players n) value) 1 items

-- the names of the players; none if the key is missing
unfoldable pub names_said : ℕ → Option Data → Result (List (Option (List ℕ))) FieldFault
names_said count None = Ok (replicate count None)
names_said count (Some value) = items_said count keys.Players value >>= names_from

-- the numbers of seats, one per value
abbrev pub numbers_from : List Data → Result (List ℕ) FieldFault
numbers_from items =
    each_from (λ n value. number_said 1 255 (item_place keys.Seats n) value) 1 items

-- the numbers that the players have at the table
unfoldable pub seats_said : ℕ → Data → Result (Option (List ℕ)) FieldFault
seats_said count value =
    items_said count keys.Seats value >>= numbers_from
    >>= λ numbers. Ok (non_default_seats count numbers)

-- how many seats the table has
unfoldable pub seat_count_said : ℕ → Data → Result (Option ℕ) FieldFault
seat_count_said count value =
    number_said 1 255 (key_place keys.SeatCount) value
    >>= λ number. Ok (if number == count then None else Some number)

-- who sits where
unfoldable pub seating_said : ℕ → Members → Result PlainSeating FieldFault
seating_said count members = do
  names ← names_said count (field_value keys.Players members)
  seats ← or_none (seats_said count) (field_value keys.Seats members)
  seat_count ← or_none (seat_count_said count) (field_value keys.SeatCount members)
  Ok (record { names = names; seats = seats; seat_count = seat_count })

-- where the hand was played; the first number is the hand's place in its file, from 0
unfoldable pub labels_said : ℕ → Members → Result Labels FieldFault
labels_said place members = do
  hand ← or_none (label_said (decimal place) (key_place keys.Hand)) (field_value keys.Hand members)
  table ← or_none (label_said [] (key_place keys.Table)) (field_value keys.Table members)
  venue ← or_none (text_note_said [] (key_place keys.Venue)) (field_value keys.Venue members)
  currency ←
      or_none (text_note_said [] (key_place keys.Currency)) (field_value keys.Currency members)
  Ok
      (record {
        hand = hand;
        texts = record { table = table; venue = venue; currency = currency };
      })

-- year, month and day are a date of the calendar, if all three are given
abbrev pub is_in_calendar : Option ℕ → Option ℕ → Option ℕ → Bool
is_in_calendar (Some year) (Some month) (Some day) = nat_le day (days_in_month year month)
is_in_calendar _ _ _ = true

-- when the hand was played
unfoldable pub day_said : Members → Result PartialDate FieldFault
day_said members = do
  year ← read_if (number_said 1 9999 (key_place keys.Year)) (field_value keys.Year members)
  month ← read_if (number_said 1 12 (key_place keys.Month)) (field_value keys.Month members)
  day ← read_if (number_said 1 31 (key_place keys.Day)) (field_value keys.Day members)
  if is_in_calendar year month day
      then Ok (record { year = year; month = month; day = day })
      else wrong whats.WrongType (key_place keys.Day)

-- the local time of a date-time, if it has no date and no zone
abbrev pub time_alone : Option Date → Option Time → Option Offset → Option Time
time_alone None (Some time) None = Some time
time_alone _ _ _ = None

-- what is given, or 0
abbrev pub or_zero : Option ℕ → ℕ
or_zero (Some number) = number
or_zero None = 0

-- a time of day; a missing second or fraction is 0
abbrev pub clock_of : Time → Clock
clock_of time =
    record {
      hour = time.hour;
      minute = time.minute;
      second = or_zero time.second;
      nano = or_zero time.nanosecond;
    }

-- it is a valid time of day
abbrev pub is_clock : Clock → Bool
is_clock clock =
    (nat_le clock.hour 23 && nat_le clock.minute 59)
    && (nat_le clock.second 59 && nat_le clock.nano 999999999)

-- the time of day of a local time
unfoldable pub clock_said : Option Time → Result Clock FieldFault
clock_said None = wrong whats.WrongType (key_place keys.Time)
clock_said (Some time) =
    if is_clock (clock_of time)
    then Ok (clock_of time)
    else wrong whats.WrongType (key_place keys.Time)

-- the time of day: a local time
unfoldable pub time_said : Data → Result Clock FieldFault
time_said (datetime said) = clock_said (time_alone said.date said.time said.offset)
time_said _ = wrong whats.WrongType (key_place keys.Time)

-- the notes made of their parts
abbrev pub notes_from : PlainSeating → Labels → PartialDate → Option Clock → Option (List ℕ)
    → SaidNotes
notes_from seating labels date time zone =
    record {
      names = seating.names;
      seats = seating.seats;
      seat_count = seating.seat_count;
      hand = labels.hand;
      texts = labels.texts;
      year = date.year;
      month = date.month;
      day = date.day;
      time = time;
      zone = zone;
    }

-- the notes
unfoldable pub notes_said : ℕ → ℕ → Members → Result SaidNotes FieldFault
notes_said place count members = do
  seating ← seating_said count members
  labels ← labels_said place members
  day ← day_said members
  time ← read_if time_said (field_value keys.Time members)
  zone ← or_none (text_note_said [] (key_place keys.TimeZone)) (field_value keys.TimeZone members)
  Ok (notes_from seating labels day time zone)
