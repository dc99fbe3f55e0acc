-- The notes of a hand that were written read back as the kept notes.
use Rattle.std.proofs.Common.{◌≡◌, ℕ, ◌≤◌, ◌<◌, ◌^◌, Bool, true, false, ◌&&◌, ◌||◌, ◌==◌, not, nat_le, nat_lt, cond, bytes_eq, decimal, List, [], length, slice_index, pos, Option, Some, None, IfSome, option_map, unwrap_or, Ok, refl, sym, ap, ◌∙◌, arith}
use Rattle.std.specs.List.{list_all}
use Rattle.std.specs.Char.{is_digit}
use Rattle.std.specs.Str.Parse.{digits_value}
use Rattle.std.proofs.lemmas.Bool.{and_parts, eqb-true, eq-eqb, le-leb, leb-true, ltb-true}
use Rattle.std.proofs.lemmas.Fmt.{decimal-digits_value}
use Rattle.toml.specs.Data.{string, integer}
use Rattle.first_fault.specs.Digits.{are_digits, number_of}
use Rattle.first_fault.specs.Reading.{read_if, or_none}
use Rattle.first_fault.specs.declared.limits.TheConstants.{MOST_TEXT_BYTES}
use Rattle.hand_canon.specs.declared.notes.Clock.{Clock}
use Rattle.hand_canon.specs.AllowedNotes.{IsNoteText, IsTime, IsWithin, days_in_month}
use Rattle.phh_reading.specs.declared.field_fault.FieldLocation.{FieldLocation}
use Rattle.phh_reading.specs.Fields.{number_said, text_said}
use Rattle.phh_reading.specs.NoteFields.{clock_said, is_in_calendar, label_said, note_said, or_zero, text_note_said, time_said}
use Rattle.phh_format.specs.HandFields.{hand_field, label, local_time, number_field, number_written}
use Rattle.card_set.proofs.Tests.{implied}
use Rattle.card_set.proofs.Digits.{all_digits, own_digits}
use Rattle.card_set.proofs.Options.{from_none_some}
use Rattle.hand_canon.specs.SaidNotes.{hand_name_noted}
use Rattle.hand_canon.proofs.NoteTexts.{not_empty, noted_again}

pub note_again : (default text : List ℕ) (place : FieldLocation) → IsNoteText text → bytes_eq text default ≡ false → note_said default place text ≡ Ok (Some text)
unfolding note_said
note_again default text place is other = rw (le-leb (length text) MOST_TEXT_BYTES is.1) (ap (λ found. Ok found) (noted_again default text is other))

pub text_note_again : (place : FieldLocation) (said : Option (List ℕ)) → IfSome said IsNoteText → or_none (text_note_said [] place) (option_map string said) ≡ Ok said
unfolding text_note_said text_said
text_note_again place None is = refl
text_note_again place (Some text) is = note_again [] text place is (not_empty text is)

-- a number within the limit is what its digits mean
of_number : (most : ℕ) (digits : List ℕ) (number : ℕ) → number_of most digits ≡ Some number → (digits_value 10 digits ≡ number) × (number ≤ most)
unfolding number_of
of_number most digits number is = go (nat_le (digits_value 10 digits) most) refl is
  where
    go : (small : Bool) → nat_le (digits_value 10 digits) most ≡ small → cond small (Some (digits_value 10 digits)) None ≡ Some number → (digits_value 10 digits ≡ number) × (number ≤ most)
    go true few found =
        let same : digits_value 10 digits ≡ number = ap (λ (found : Option ℕ). unwrap_or found 0) found in
        (same, omega (arith, same, leb-true (digits_value 10 digits) most few))
    go false few found = from_none_some found

-- a text that is written as a number is that number in decimal digits
number_is : (text : List ℕ) (number : ℕ) → number_written text ≡ Some number → decimal number ≡ text
unfolding number_written are_digits
number_is text number is = go (are_digits text && (not (slice_index text 0 == 48) || (length text == 1))) refl is
  where
    go : (short : Bool) → (are_digits text && (not (slice_index text 0 == 48) || (length text == 1))) ≡ short → cond short (number_of 999999999999999999 text) None ≡ Some number → decimal number ≡ text
    go false test found = from_none_some found
    go true test found =
        let parts = and_parts (are_digits text) (not (slice_index text 0 == 48) || (length text == 1)) test in
        let digits = and_parts (nat_lt 0 (length text)) (list_all (λ sign. is_digit sign 10) text) parts.0 in
        let value = of_number 999999999999999999 text number found in
        let no_zero : slice_index text 0 ≡ 48 → length text ≡ 1 = λ zero_first. eqb-true (length text) 1 (implied (slice_index text 0 == 48) (length text == 1) parts.1 (eq-eqb (slice_index text 0) 48 zero_first)) in
        let small : digits_value 10 text < 2 ^ 64 = omega (arith, value.0, value.1) in
        ap decimal (sym value.0) ∙ decimal-digits_value own_digits text (all_digits text digits.1) (ltb-true 0 (length text) digits.0) no_zero small

-- a label reads back as its text
pub label_again : (default text : List ℕ) (place : FieldLocation) → IsNoteText text → bytes_eq text default ≡ false → label_said default place (label text) ≡ Ok (Some text)
unfolding label_said
label_again default text place is other = go (number_written text) refl
  where
    go : (found : Option ℕ) → number_written text ≡ found → label_said default place (unwrap_or (option_map (λ number. integer (pos number)) found) (string text)) ≡ Ok (Some text)
    go None found = note_again default text place is other
    go (Some number) found = ap (note_said default place) (number_is text number found) ∙ note_again default text place is other

pub table_again : (place : FieldLocation) (said : Option (List ℕ)) → IfSome said IsNoteText → or_none (label_said [] place) (option_map label said) ≡ Ok said
table_again place None is = refl
table_again place (Some text) is = label_again [] text place is (not_empty text is)

pub name_again : (at : ℕ) (place : FieldLocation) (said : Option (List ℕ)) → IfSome said IsNoteText → or_none (label_said (decimal at) place) (hand_field at said) ≡ Ok (hand_name_noted at said)
name_again at place None is = refl
name_again at place (Some name) is = go (bytes_eq name (decimal at)) refl
  where
    go : (usual : Bool) → bytes_eq name (decimal at) ≡ usual → or_none (label_said (decimal at) place) (cond usual None (Some (label name))) ≡ Ok (cond usual None (Some name))
    go true usual = refl
    go false other = label_again (decimal at) name place is other

pub number_again : (least most number : ℕ) (place : FieldLocation) → IsWithin least most number → number_said least most place (integer (pos number)) ≡ Ok number
unfolding number_said
number_again least most number place is = rw (le-leb least number is.0, le-leb number most is.1) refl

pub said_again : (least most : ℕ) (place : FieldLocation) (said : Option ℕ) → IfSome said (IsWithin least most) → read_if (number_said least most place) (number_field said) ≡ Ok said
said_again least most place None is = refl
said_again least most place (Some number) is = rw (number_again least most number place is) refl

pub calendar_again : (year month day : Option ℕ) → IfSome year (λ year. IfSome month (λ month. IfSome day (λ day. day ≤ days_in_month year month))) → is_in_calendar year month day ≡ true
calendar_again None month day is = refl
calendar_again (Some year) None day is = refl
calendar_again (Some year) (Some month) None is = refl
calendar_again (Some year) (Some month) (Some day) is = le-leb day (days_in_month year month) is

part_again : (nano : ℕ) (none : Bool) → (nano == 0) ≡ none → or_zero (cond none None (Some nano)) ≡ nano
part_again nano true is = sym (eqb-true nano 0 is)
part_again nano false is = refl

pub clock_again : (clock : Clock) → IsTime clock → time_said (local_time clock) ≡ Ok clock
unfolding time_said clock_said
clock_again clock is =
    rw (part_again clock.nano (clock.nano == 0) refl, le-leb clock.hour 23 is.hour, le-leb clock.minute 59 is.minute, le-leb clock.second 59 is.second, le-leb clock.nano 999999999 is.nano) refl

pub time_again : (time : Option Clock) → IfSome time IsTime → read_if time_said (option_map local_time time) ≡ Ok time
time_again None is = refl
time_again (Some clock) is = rw (clock_again clock is) refl
