-- The notes of a hand that were written read as the kept notes.
use Rattle.std.proofs.Common.{◌≡◌, ℕ, zero, suc, ◌+◌, ◌-◌, ◌<◌, ◌≤◌, ◌==◌, Bool, true, false, ◌||◌, cond, bytes_eq, codes, decimal, List, [], ◌∷◌, length, map, take, get_or, Option, Some, None, IfSome, option_map, option_and_then, unwrap_or, Result, Ok, refl, sym, ap, ap₂, subst, ◌∙◌, arith}
use Rattle.std.specs.List.{range_with_len}
use Rattle.std.proofs.lemmas.Bool.{eq-eqb, le-leb, ne_eqb}
use Rattle.std.proofs.lemmas.Fmt.{length-decimal-le}
use Rattle.std.proofs.lemmas.List.{length-take-le}
use Rattle.std.proofs.lemmas.Option.{same_Some}
use Rattle.std.proofs.lemmas.Slice.Eq.{bytes_eq-Decides}
use Rattle.serde_json.specs.Data.{Data, string}
use Rattle.chip_ledger.specs.declared.seat_row.SeatRow.{SeatRow}
use Rattle.first_fault.specs.Reading.{read_if, or_none}
use Rattle.first_fault.specs.declared.limits.TheConstants.{MOST_HANDS, MOST_TEXT_BYTES}
use Rattle.hand_canon.specs.AllowedNotes.{AreAllowed, IsDayOf, IsName, IsNoteText, IsSeatCount, IsTime, IsWithin, noted, non_default_seats}
use Rattle.hand_canon.specs.declared.notes.Clock.{Clock}
use Rattle.hand_canon.specs.declared.notes.Notes.{Notes}
use Rattle.ohh_members.specs.declared.fault.MemberFault.{MemberFault}
use Rattle.ohh_members.specs.declared.fault.Path.{Path}
use Rattle.ohh_members.specs.declared.fault.Path.TheVariants as paths
use Rattle.ohh_members.specs.Players.{PlainPlayer}
use Rattle.ohh_members.specs.Values.{member_at, number_said, text_said}
use Rattle.ohh_reading.specs.MomentRanges.{IsMoment}
use Rattle.ohh_reading.specs.Moments as moments
use Rattle.ohh_reading.specs.Notes.{label_said, labels_said, names_from, note_said, notes_said, seat_count_said, text_note_said}
use Rattle.hand_canon.specs.declared.notes.Moment.{Moment}
use Rattle.ohh_writing.specs.Moment.{moment_of, moment_said, moment_text}
use Rattle.ohh_writing.specs.Seating.{number_among, numbers_spelled}
use Rattle.ohh_writing.specs.Tree.{whole}
use Rattle.ohh_format.specs.Again.{notes_again}
use Rattle.ohh_format.proofs.MomentAgain.{moment_again}
use Rattle.ohh_format.proofs.SeatingAgain.{players_from}
use Rattle.card_set.proofs.Bytes.{same_bytes}
use Rattle.card_set.proofs.Entries.{zero_taken_at}
use Rattle.card_set.proofs.Options.{from_none_some, none_anyway}
use Rattle.hand_canon.proofs.NoteTexts.{not_empty, noted_again}
use Rattle.chip_ledger.specs.SeatsSaid.{default_name}
use Rattle.hand_canon.specs.NoteTable.{texts_of}
use Rattle.hand_canon.specs.SaidNotes.{hand_name_noted}

-- ---- texts

note_again : (default text : List ℕ) (path : Path) → IsNoteText text → bytes_eq text default ≡ false → note_said default path text ≡ Ok (Some text)
unfolding note_said
note_again default text path is other = rw (le-leb (length text) MOST_TEXT_BYTES is.1) (ap (λ (found : Option (List ℕ)). Ok found) (noted_again default text is other))

-- a text that equals its default counts as none
same_none : (default text : List ℕ) → bytes_eq text default ≡ true → noted default text ≡ None
same_none default text same = ap (λ (b : Bool). cond ((length text == 0) || b) None (Some text)) same ∙ none_anyway (length text == 0) text

-- a text that may be empty
text_again : (path : Path) (said : Option (List ℕ)) → IfSome said IsNoteText → or_none (text_note_said [] path) (Some (string (unwrap_or said []))) ≡ Ok said
unfolding text_note_said text_said note_said
text_again path None is = refl
text_again path (Some text) is = note_again [] text path is (not_empty text is)

label_again : (place : ℕ) (path : Path) (said : Option (List ℕ)) → place < MOST_HANDS → IfSome said IsNoteText → or_none (label_said (decimal place) path) (Some (string (unwrap_or said (decimal place)))) ≡ Ok (hand_name_noted place said)
unfolding label_said note_said
label_again place path None few is =
    let short : length (decimal place) ≤ 20 = length-decimal-le 20 place (omega arith) (omega (arith, few)) (omega (arith, few)) in
    rw (le-leb (length (decimal place)) MOST_TEXT_BYTES (omega (arith, short))) (ap (λ (found : Option (List ℕ)). Ok found) (same_none (decimal place) (decimal place) (same_bytes (decimal place))))
label_again place path (Some text) few is = rw (le-leb (length text) MOST_TEXT_BYTES is.1) (by_usual (bytes_eq text (decimal place)) refl)
  where
    found : Option (List ℕ) → Result (Option (List ℕ)) MemberFault
    found said = Ok said

    by_usual : (usual : Bool) → bytes_eq text (decimal place) ≡ usual → found (noted (decimal place) text) ≡ found (cond usual None (Some text))
    by_usual true e = ap found (same_none (decimal place) text e)
    by_usual false e = ap found (noted_again (decimal place) text is e)

count_again : (count : ℕ) (said : Option ℕ) → 1 ≤ count → count ≤ 255 → IfSome said (IsSeatCount count) → or_none (seat_count_said count) (Some (whole (unwrap_or said count))) ≡ Ok said
unfolding seat_count_said number_said
count_again count None some few is = rw (le-leb 1 count some, le-leb count 255 few, eq-eqb count count refl) refl
count_again count (Some number) some few is = rw (le-leb 1 number is.range.0, le-leb number 255 is.range.1, ne_eqb number count is.said) refl

-- ---- the moment

-- a moment in allowed notes is one of the calendar
moment_good : (year month day : Option ℕ) (time : Option Clock) (area : Option (List ℕ)) (moment : Moment) → moment_said year month day time area ≡ Some moment
    → IfSome year (IsWithin 1 9999) → IfSome month (IsWithin 1 12) → IfSome day (IsWithin 1 31) → IfSome year (λ year. IfSome month (λ month. IfSome day (IsDayOf year month))) → IfSome time IsTime → IsMoment moment
moment_good None month day time area moment is a b c d e = from_none_some is
moment_good (Some year) None day time area moment is a b c d e = from_none_some is
moment_good (Some year) (Some month) None time area moment is a b c d e = from_none_some is
moment_good (Some year) (Some month) (Some day) None area moment is a b c d e = from_none_some is
moment_good (Some year) (Some month) (Some day) (Some time) None moment is a b c d e = from_none_some is
moment_good (Some year) (Some month) (Some day) (Some time) (Some area) moment is a b c d e = by_area (bytes_eq area (codes "UTC")) is
  where
    by_area : (utc : Bool) → cond utc (Some (record { day = record { year = year; month = month; day = day }; time = time })) None ≡ Some moment → IsMoment moment
    by_area false is = from_none_some is
    by_area true is =
        let same : ◌≡◌ {A = Moment} (record { day = record { year = year; month = month; day = day }; time = time }) moment = same_Some (record { day = record { year = year; month = month; day = day }; time = time }) moment is in
        subst IsMoment same (record { day = record { year = a; month = b; day_of_month = c; date = d }; time = e })

-- the moment that is written, if one is
abbrev pub date_written : Notes → Option Data
date_written notes = option_map (λ moment. string (moment_text moment)) (moment_of notes)

date_again : (said : Option Moment) → IfSome said IsMoment → read_if moments.moment_said (option_map (λ moment. string (moment_text moment)) said) ≡ Ok said
unfolding text_said
date_again None is = refl
date_again (Some moment) is = rw (moment_again moment is) refl

good_moment : (count : ℕ) (notes : Notes) → AreAllowed count notes → (said : Option Moment) → moment_of notes ≡ said → IfSome said IsMoment
good_moment count notes are None is = tt
good_moment count notes are (Some moment) is = moment_good notes.year notes.month notes.day notes.time notes.zone moment is are.year are.month are.day are.date are.time

-- ---- the hand

-- the members of the notes, as they are written
pub record HasNotes (place : ℕ) (count : ℕ) (notes : Notes) (ohh : Data) : Type 0 where
  pub hand : member_at paths.GameNumber ohh ≡ Some (string (unwrap_or notes.hand (decimal place)))
  pub table : member_at paths.TableName ohh ≡ Some (string (unwrap_or notes.table []))
  pub seat_count : member_at paths.TableSize ohh ≡ Some (whole (unwrap_or notes.seat_count count))
  pub date : member_at paths.StartDate ohh ≡ date_written notes
  pub currency : member_at paths.Currency ohh ≡ Some (string (unwrap_or notes.currency []))
  pub venue : member_at paths.SiteName ohh ≡ Some (string (unwrap_or notes.venue []))

module _ (place count : ℕ) (stacks : SeatRow) (notes : Notes) (ohh : Data) (few : place < MOST_HANDS) (some : 2 ≤ count) (ten : count ≤ 10) (are : AreAllowed count notes) (has : HasNotes place count notes ohh) where
  abbrev numbers : Option (List ℕ)
  numbers = numbers_spelled count notes.seats

  labels_again : labels_said place count ohh
      ≡ Ok (record { hand = hand_name_noted place notes.hand; texts = texts_of notes; seat_count = notes.seat_count; moment = moment_of notes })
  unfolding labels_said
  labels_again =
      rw (
        has.hand,
        label_again place paths.GameNumber notes.hand few are.hand,
        has.table,
        text_again paths.TableName notes.table are.texts.0,
        has.seat_count,
        count_again count notes.seat_count (omega (arith, some)) (omega (arith, ten)) are.seat_count,
        has.date,
        date_again (moment_of notes) (good_moment count notes are (moment_of notes) refl),
        has.currency,
        text_again paths.Currency notes.currency are.texts.1.1.0,
        has.venue,
        text_again paths.SiteName notes.venue are.texts.1.0,
      ) refl

  one_name : (seat : ℕ) (said : Option (List ℕ)) → IfSome said (IsName seat) → noted (default_name seat) (unwrap_or said (default_name seat)) ≡ said
  one_name seat None is = same_none (default_name seat) (default_name seat) (same_bytes (default_name seat))
  one_name seat (Some name) is = noted_again (default_name seat) name is.text (differs name (default_name seat) is.said)
    where
      differs : (text default : List ℕ) → (text ≡ default → ⊥) → bytes_eq text default ≡ false
      differs text default other = by_same (bytes_eq text default) refl
        where
          by_same : (same : Bool) → bytes_eq text default ≡ same → same ≡ false
          by_same true is = absurd (other ((bytes_eq-Decides text default).0 is))
          by_same false is = refl

  names_again : (first many : ℕ) → 1 ≤ first → first + many ≤ count + 1 → names_from first (players_from count stacks notes numbers first many) ≡ map (λ seat. get_or notes.names (seat - 1) None) (range_with_len first many)
  names_again first zero low high = refl
  names_again first (suc many) low high =
      ap₂ (λ (name : Option (List ℕ)) (rest : List (Option (List ℕ))). name ∷ rest) (one_name first (get_or notes.names (first - 1) None) (are.names first low (omega (arith, high))))
      (names_again (first + 1) many (omega (arith, low)) (omega (arith, high)))

  seats_from : (found : Option (List ℕ)) (first many : ℕ) → map (λ (player : PlainPlayer). player.seat) (players_from count stacks notes found first many) ≡ map (number_among found) (range_with_len first many)
  seats_from found first zero = refl
  seats_from found first (suc many) = ap (λ (l : List ℕ). number_among found first ∷ l) (seats_from found (first + 1) many)

  same_numbers : (first many : ℕ) → map (number_among None) (range_with_len first many) ≡ range_with_len first many
  same_numbers first zero = refl
  same_numbers first (suc many) = ap (λ (l : List ℕ). first ∷ l) (same_numbers (first + 1) many)

  said_numbers : (all : List ℕ) (first many : ℕ) (xs : List ℕ) → 1 ≤ first → length xs ≡ many → ((k : ℕ) → k < many → get_or xs k 0 ≡ get_or all (first - 1 + k) 0) → map (number_among (Some all)) (range_with_len first many) ≡ xs
  said_numbers all first zero [] low long each = refl
  said_numbers all first zero (x ∷ xs) low long each = absurd (omega (arith, long))
  said_numbers all first (suc many) [] low long each = absurd (omega (arith, long))
  said_numbers all first (suc many) (x ∷ xs) low long each =
      ap₂ (λ (y : ℕ) (ys : List ℕ). y ∷ ys) (ap (λ k. get_or all k 0) (omega arith) ∙ sym (each 0 (omega arith)))
      (said_numbers all (first + 1) many xs (omega arith) (omega (arith, long)) (λ k within. each (suc k) (omega (arith, within)) ∙ ap (λ j. get_or all j 0) (omega (arith, low))))

  seats_again : (found : Option (List ℕ)) → IfSome found (λ all. count ≤ length all) → non_default_seats count (map (λ (player : PlainPlayer). player.seat) (players_from count stacks notes found 1 count)) ≡ option_and_then (λ all. non_default_seats count (take count all)) found
  seats_again None long =
      let usual : map (λ (player : PlainPlayer). player.seat) (players_from count stacks notes None 1 count) ≡ range_with_len 1 count = seats_from None 1 count ∙ same_numbers 1 count in
      ap (non_default_seats count) usual
      ∙ ap (λ (b : Bool). cond b None (Some (range_with_len 1 count))) (same_bytes (range_with_len 1 count))
  seats_again (Some all) long =
      ap (non_default_seats count) (seats_from (Some all) 1 count
      ∙ said_numbers all 1 count (take count all) (omega arith) (length-take-le count all long) (λ k within. zero_taken_at count all k within ∙ ap (λ j. get_or all j 0) (omega arith)))

  -- the notes
  pub notes_read : (long : IfSome numbers (λ all. count ≤ length all)) (many : ℕ) → many ≡ count → length (players_from count stacks notes numbers 1 count) ≡ many
      → notes_said place (players_from count stacks notes numbers 1 count) ohh ≡ Ok (notes_again place count notes)
  unfolding notes_said
  notes_read long many at counted =
      rw (counted ∙ at, labels_again, names_again 1 count (omega arith) (omega arith), seats_again numbers long) refl
