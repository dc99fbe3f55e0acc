-- The document of plays has little nesting, and each time in it is a valid time of day.
use Rattle.std.proofs.Common.{◌≡◌, ℕ, ◌+◌, ◌≤◌, Bool, true, false, ◌==◌, cond, nat_lt, bytes_eq, decimal, List, [], ◌∷◌, ◌++◌, map, take, Option, Some, None, IfSome, option_map, unwrap_or, is_some, not, Ordering, Less, Equal, Greater, pos, refl, arith}
use Rattle.std.specs.List.{AllByRecursion, list_any, range_with_len}
use Rattle.std.specs.Ordering.{nat_cmp, match_ordering}
use Rattle.std.specs.Cmp.Lexicographic.{slice_cmp}
use Rattle.std.proofs.lemmas.Bool.{and_parts, lt-ltb}
use Rattle.toml.specs.Data.{Data, string, integer, Members, no_members, member, depth, items_depth, members_depth, has_valid_dates, items_have_valid_dates, members_have_valid_dates}
use Rattle.toml.specs.View.{items_of}
use Rattle.toml_datetime.specs.Valid.{is_none_or_below, is_valid, is_valid_time}
use Rattle.hand_canon.specs.declared.notes.Clock.{Clock}
use Rattle.hand_canon.specs.declared.notes.Notes.{Notes}
use Rattle.hand_canon.specs.declared.trace.Play.{Play}
use Rattle.hand_canon.specs.AllowedNotes.{AreAllowed, IsTime, name_written}
use Rattle.hand_canon.specs.Sound.{IsSound}
use Rattle.play_event.specs.declared.setup.Setup.{Setup}
use Rattle.play_event.specs.Code.{code_text}
use Rattle.play_event.specs.Streets.{is_stud_game, limit_of}
use Rattle.play_event.specs.ValidSetup.{is_fixed_limit}
use Rattle.phh_actions.specs.Written.{event_text}
use Rattle.hand_canon.specs.declared.trace.Trace.{Trace}
use Rattle.phh_format.specs.Members.{Field, table_of, with_member}
use Rattle.phh_format.specs.HandFields.{blinds_written, hand_field, hand_fields, label, local_time, note_fields, number_field, number_written, numbers, script_of, setup_fields, texts, trace_fields}
use Rattle.phh_format.specs.Document.{document, hand_table, numbered_hands}
use Rattle.chip_ledger.specs.SeatRow.{amounts_in}

-- a value is no deeper than this, and its times are valid times of day
pub record IsPlain (most : ℕ) (value : Data) : Type 0 where
  pub shallow : depth value ≤ most
  pub dates : has_valid_dates value ≡ true

-- the same of the members of a table
pub record ArePlain (most : ℕ) (members : Members) : Type 0 where
  pub shallow : members_depth members ≤ most
  pub dates : members_have_valid_dates members ≡ true

-- the same of a field that may be missing
abbrev pub IsPlainField : ℕ → Option Data → Type 0
IsPlainField most None = Unit {0}
IsPlainField most (Some value) = IsPlain most value

plain_member : (most : ℕ) (key : List ℕ) (value : Data) (rest : Members) → IsPlain most value → ArePlain most rest → ArePlain most (member key value rest)
plain_member most key value rest one others =
    record { shallow = omega (arith, one.shallow, others.shallow); dates = rw (one.dates, others.dates) refl }

first_plain : (most : ℕ) (key : List ℕ) (value : Data) (rest : Members) → ArePlain most (member key value rest) → IsPlain most value
first_plain most key value rest both =
    record { shallow = omega (arith, both.shallow); dates = (and_parts (has_valid_dates value) (members_have_valid_dates rest) both.dates).0 }

rest_plain : (most : ℕ) (key : List ℕ) (value : Data) (rest : Members) → ArePlain most (member key value rest) → ArePlain most rest
rest_plain most key value rest both =
    record { shallow = omega (arith, both.shallow); dates = (and_parts (has_valid_dates value) (members_have_valid_dates rest) both.dates).1 }

put_at : (order : Ordering) (most : ℕ) (key next : List ℕ) (value other : Data) (rest more : Members) → IsPlain most value → ArePlain most (member next other rest) → ArePlain most more
    → ArePlain most (match_ordering order (member key value (member next other rest)) (member next value rest) (member next other more))
put_at Less most key next value other rest more one others later = plain_member most key value (member next other rest) one others
put_at Equal most key next value other rest more one others later = plain_member most next value rest one (rest_plain most next other rest others)
put_at Greater most key next value other rest more one others later = plain_member most next other more (first_plain most next other rest others) later

plain_put : (most : ℕ) (key : List ℕ) (value : Data) (members : Members) → IsPlain most value → ArePlain most members → ArePlain most (with_member key value members)
plain_put most key value no_members one all = plain_member most key value no_members one all
plain_put most key value (member next other rest) one all =
    put_at (slice_cmp nat_cmp key next) most key next value other rest (with_member key value rest) one all
    (plain_put most key value rest one (rest_plain most next other rest all))

no_members_plain : (most : ℕ) → ArePlain most no_members
no_members_plain most = record { shallow = omega arith; dates = refl }

-- a table of plain fields is plain
plain_table : (most : ℕ) (fields : List Field) → AllByRecursion (λ field. IsPlainField most field.1) fields → ArePlain most (table_of fields)
plain_table most [] each = no_members_plain most
plain_table most ((key, None) ∷ fields) each = plain_table most fields each.1
plain_table most ((key, Some value) ∷ fields) each = plain_put most key value (table_of fields) each.0 (plain_table most fields each.1)

number_plain : (number : ℕ) → IsPlain 1 (integer (pos number))
number_plain number = record { shallow = omega arith; dates = refl }

text_plain : (text : List ℕ) → IsPlain 1 (string text)
text_plain text = record { shallow = omega arith; dates = refl }

flat_numbers : (all : List ℕ) → (items_depth (items_of (map (λ number. integer (pos number)) all)) ≤ 0) × (items_have_valid_dates (items_of (map (λ number. integer (pos number)) all)) ≡ true)
flat_numbers [] = (omega arith, refl)
flat_numbers (number ∷ rest) = let behind = flat_numbers rest in (omega (arith, behind.0), behind.1)

flat_texts : (all : List (List ℕ)) → (items_depth (items_of (map string all)) ≤ 0) × (items_have_valid_dates (items_of (map string all)) ≡ true)
flat_texts [] = (omega arith, refl)
flat_texts (text ∷ rest) = let behind = flat_texts rest in (omega (arith, behind.0), behind.1)

numbers_plain : (all : List ℕ) → IsPlain 1 (numbers all)
numbers_plain all = let flat = flat_numbers all in record { shallow = omega (arith, flat.0); dates = flat.1 }

texts_plain : (all : List (List ℕ)) → IsPlain 1 (texts all)
texts_plain all = let flat = flat_texts all in record { shallow = omega (arith, flat.0); dates = flat.1 }

where_plain : (test : Bool) (value : Data) → IsPlain 1 value → IsPlainField 1 (cond test (Some value) None)
where_plain true value one = one
where_plain false value one = tt

unless_plain : (test : Bool) (value : Data) → IsPlain 1 value → IsPlainField 1 (cond test None (Some value))
unless_plain true value one = tt
unless_plain false value one = one

number_field_plain : (said : Option ℕ) → IsPlainField 1 (number_field said)
number_field_plain None = tt
number_field_plain (Some number) = number_plain number

note_plain : (said : Option (List ℕ)) → IsPlainField 1 (option_map string said)
note_plain None = tt
note_plain (Some text) = text_plain text

label_plain : (text : List ℕ) → IsPlain 1 (label text)
label_plain text = go (number_written text)
  where
    go : (found : Option ℕ) → IsPlain 1 (unwrap_or (option_map (λ number. integer (pos number)) found) (string text))
    go None = text_plain text
    go (Some number) = number_plain number

name_plain : (name : Option (List ℕ)) → IsPlainField 1 (option_map label name)
name_plain None = tt
name_plain (Some text) = label_plain text

hand_plain : (place : ℕ) (name : Option (List ℕ)) → IsPlainField 1 (hand_field place name)
hand_plain place None = tt
hand_plain place (Some text) = unless_plain (bytes_eq text (decimal place)) (label text) (label_plain text)

below : (nano : ℕ) (none : Bool) → nano ≤ 999999999 → is_none_or_below (cond none None (Some nano)) 1000000000 ≡ true
below nano true few = refl
below nano false few = lt-ltb nano 1000000000 (omega (arith, few))

time_valid : (clock : Clock) → IsTime clock → has_valid_dates (local_time clock) ≡ true
unfolding is_valid is_valid_time
time_valid clock is =
    rw (lt-ltb clock.hour 24 (omega (arith, is.hour)), lt-ltb clock.minute 60 (omega (arith, is.minute)), lt-ltb clock.second 61 (omega (arith, is.second)), below clock.nano (clock.nano == 0) is.nano) refl

time_plain : (time : Option Clock) → IfSome time IsTime → IsPlainField 1 (option_map local_time time)
time_plain None is = tt
time_plain (Some clock) is = record { shallow = omega arith; dates = time_valid clock is }

seats_plain : (count : ℕ) (said : Option (List ℕ)) → IsPlainField 1 (option_map (λ seats. numbers (take count seats)) said)
seats_plain count None = tt
seats_plain count (Some seats) = numbers_plain (take count seats)

abbrev Plain : List Field → Type 0
Plain fields = AllByRecursion (λ field. IsPlainField 1 field.1) fields

together : (fields others : List Field) → Plain fields → Plain others → Plain (fields ++ others)
together [] others each all = all
together (field ∷ fields) others each all = (each.0, together fields others each.1 all)

setup_plain : (setup : Setup) → Plain (setup_fields setup)
setup_plain setup = (
  text_plain (code_text setup.code),
  (
    record { shallow = omega arith; dates = refl },
    (
      numbers_plain (amounts_in setup.antes),
      (
        unless_plain (is_stud_game setup.code) (numbers (blinds_written (amounts_in setup.blinds))) (numbers_plain (blinds_written (amounts_in setup.blinds))),
        (
          where_plain (is_stud_game setup.code) (integer (pos setup.bring_in)) (number_plain setup.bring_in),
          (
            where_plain (is_fixed_limit (limit_of setup.code)) (integer (pos setup.small_bet)) (number_plain setup.small_bet),
            (
              where_plain (is_fixed_limit (limit_of setup.code)) (integer (pos setup.big_bet)) (number_plain setup.big_bet),
              (
                where_plain (not (is_fixed_limit (limit_of setup.code))) (integer (pos setup.min_bet)) (number_plain setup.min_bet),
                (numbers_plain (amounts_in setup.stacks), tt),
              ),
            ),
          ),
        ),
      ),
    ),
  ),
)

trace_plain : (trace : Trace) → Plain (trace_fields trace)
trace_plain trace = (
  texts_plain (map event_text (script_of trace)),
  (
    numbers_plain (amounts_in trace.finish),
    (where_plain (list_any (nat_lt 0) (take trace.pots.count trace.setup.rakes.rakes)) (numbers (take trace.pots.count trace.setup.rakes.rakes)) (numbers_plain (take trace.pots.count trace.setup.rakes.rakes)), tt),
  ),
)

notes_plain : (place count seats : ℕ) (notes : Notes) → AreAllowed seats notes → Plain (note_fields place count notes)
notes_plain place count seats notes allowed = (
  where_plain (list_any is_some (take count notes.names)) (texts (map (name_written notes) (range_with_len 1 count))) (texts_plain (map (name_written notes) (range_with_len 1 count))),
  (
    seats_plain count notes.seats,
    (
      number_field_plain notes.seat_count,
      (
        hand_plain place notes.hand,
        (
          name_plain notes.table,
          (
            note_plain notes.venue,
            (
              note_plain notes.currency,
              (
                number_field_plain notes.year,
                (
                  number_field_plain notes.month,
                  (
                    number_field_plain notes.day,
                    (
                      time_plain notes.time allowed.time,
                      (note_plain notes.zone, tt),
                    ),
                  ),
                ),
              ),
            ),
          ),
        ),
      ),
    ),
  ),
)

hand_plain_table : (place : ℕ) (play : Play) → IsSound play → ArePlain 1 (hand_table place play)
unfolding hand_table
hand_plain_table place play sound =
    let setup = play.trace.setup in
    plain_table 1 (hand_fields place play)
    (together (setup_fields setup) (trace_fields play.trace ++ note_fields place setup.stacks.seats play.hand.notes) (setup_plain setup)
    (together (trace_fields play.trace) (note_fields place setup.stacks.seats play.hand.notes) (trace_plain play.trace)
    (notes_plain place setup.stacks.seats play.hand.setup.stacks.seats play.hand.notes sound.notes)))

hands_plain : (place : ℕ) (plays : List Play) → AllByRecursion IsSound plays → AllByRecursion (λ field. IsPlainField 2 field.1) (numbered_hands place plays)
hands_plain place [] each = tt
hands_plain place (play ∷ rest) each =
    let one = hand_plain_table place play each.0 in
    (record { shallow = omega (arith, one.shallow); dates = one.dates }, hands_plain (place + 1) rest each.1)

-- the document of sound plays is plain
pub document_plain : (plays : List Play) → AllByRecursion IsSound plays → ArePlain 2 (document plays)
document_plain [] each = no_members_plain 2
document_plain (play ∷ []) each = let one = hand_plain_table 0 play each.0 in record { shallow = omega (arith, one.shallow); dates = one.dates }
document_plain (play ∷ next ∷ rest) each = plain_table 2 (numbered_hands 0 (play ∷ next ∷ rest)) (hands_plain 0 (play ∷ next ∷ rest) each)
