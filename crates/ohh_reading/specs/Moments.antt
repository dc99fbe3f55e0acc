-- When a hand was played, as text: 2024-01-31T20:15:00.5Z.
use Rattle.std.specs.Prelude.{ℕ, ◌-◌, ◌==◌, Bool, ◌&&◌, ◌||◌, nat_le, nat_lt, bytes_eq, if◌then◌else◌, List, ◌++◌, codes, length, take, drop, replicate, slice_index, Result, Ok}
use Rattle.std.specs.Char.{is_digit}
use Rattle.std.specs.List.{prefix_len}
use Rattle.std.specs.Str.Parse.{digits_value}
use Rattle.serde_json.specs.Data.{Data}
use Rattle.hand_canon.specs.declared.notes.Clock.{Clock}
use Rattle.hand_canon.specs.AllowedNotes.{days_in_month}
use Rattle.first_fault.specs.Digits.{are_digits}
use Rattle.first_fault.specs.Reading.{◌>>=◌}
use Rattle.hand_canon.specs.declared.notes.CivilDate.{CivilDate}
use Rattle.hand_canon.specs.declared.notes.Moment.{Moment}
use Rattle.ohh_members.specs.declared.fault.MemberFaultKind.TheVariants as whats
use Rattle.ohh_members.specs.declared.fault.Path.TheVariants as paths
use Rattle.ohh_members.specs.declared.fault.MemberFault.{MemberFault}
use Rattle.ohh_members.specs.Values.{wrong, text_said}

-- the text is not a moment
abbrev pub no_moment : {A : Type 0} → Result A MemberFault
no_moment = wrong whats.WrongType paths.StartDate

-- the part of a text from this place on, with this many characters
abbrev pub characters_from : ℕ → ℕ → List ℕ → List ℕ
characters_from from count text = take count (drop from text)

-- a number from least to most, in decimal digits
unfoldable pub digits_said : ℕ → ℕ → List ℕ → Result ℕ MemberFault
digits_said least most digits =
    if are_digits digits
    && (nat_le least (digits_value 10 digits) && nat_le (digits_value 10 digits) most)
    then Ok (digits_value 10 digits)
    else no_moment

-- the characters between the numbers of a text of at least 19: YYYY-MM-DD, T or a space, hh:mm:ss
abbrev pub has_signs : List ℕ → Bool
has_signs text =
    nat_le 19 (length text)
    && (((slice_index text 4 == 45) && (slice_index text 7 == 45))
    && (((slice_index text 10 == 84) || (slice_index text 10 == 32))
    && ((slice_index text 13 == 58) && (slice_index text 16 == 58))))

-- the date, which the calendar has
unfoldable pub day_said : List ℕ → Result CivilDate MemberFault
day_said text = do
  year ← digits_said 1 9999 (characters_from 0 4 text)
  month ← digits_said 1 12 (characters_from 5 2 text)
  day ← digits_said 1 31 (characters_from 8 2 text)
  if nat_le day (days_in_month year month)
      then Ok (record { year = year; month = month; day = day })
      else no_moment

-- the time of day, with these nanoseconds
unfoldable pub clock_said : ℕ → List ℕ → Result Clock MemberFault
clock_said nano text = do
  hour ← digits_said 0 23 (characters_from 11 2 text)
  minute ← digits_said 0 59 (characters_from 14 2 text)
  second ← digits_said 0 59 (characters_from 17 2 text)
  Ok (record { hour = hour; minute = minute; second = second; nano = nano })

-- how many digits a text begins with
abbrev pub digits_in_front : List ℕ → ℕ
digits_in_front text = prefix_len (λ sign. is_digit sign 10) text

-- digits, padded with zeros on the right to nine
abbrev pub nine_of : List ℕ → List ℕ
nine_of digits = digits ++ replicate (9 - length digits) 48

-- the zone is universal time: Z, +00:00, or nothing
abbrev pub is_universal : List ℕ → Bool
is_universal zone =
    (length zone == 0) || (bytes_eq zone (codes "Z") || bytes_eq zone (codes "+00:00"))

-- these nanoseconds, if a zone of universal time follows
unfoldable pub zoned : ℕ → List ℕ → Result ℕ MemberFault
zoned nano zone = if is_universal zone then Ok nano else no_moment

-- one to nine digits of a fraction of a second, in nanoseconds, followed by the zone
unfoldable pub fraction_of : ℕ → List ℕ → Result ℕ MemberFault
fraction_of count text =
    if nat_le 1 count && nat_le count 9
    then (digits_said 0 999999999 (nine_of (take count text))
    >>= λ nano. zoned nano (drop count text))
    else no_moment

-- the text begins with a point
abbrev pub has_point : List ℕ → Bool
has_point text = nat_lt 0 (length text) && (slice_index text 0 == 46)

-- what comes after the seconds: optionally a point and a fraction, and then the zone
unfoldable pub fraction_said : List ℕ → Result ℕ MemberFault
fraction_said text =
    if has_point text
    then fraction_of (digits_in_front (drop 1 text)) (drop 1 text)
    else zoned 0 text

-- the moment in a text with these separators
unfoldable pub parts_said : List ℕ → Result Moment MemberFault
parts_said text = do
  day ← day_said text
  nano ← fraction_said (drop 19 text)
  time ← clock_said nano text
  Ok (record { day = day; time = time })

-- the moment in a text
unfoldable pub moment_in : List ℕ → Result Moment MemberFault
moment_in text = if has_signs text then parts_said text else no_moment

-- the moment at which a hand began
abbrev pub moment_said : Data → Result Moment MemberFault
moment_said value = text_said paths.StartDate value >>= moment_in
