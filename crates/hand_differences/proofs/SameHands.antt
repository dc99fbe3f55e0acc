-- Sound plays without a difference are the same hand.
use Rattle.std.proofs.Common.{◌≡◌, ◌↔◌, ℕ, ◌-◌, Bool, true, false, not, cond, ◌==◌, max, List, [], ◌∷◌, length, slice_get, find, Option, Some, None, option_map, option_and_then, bytes_eq, refl, sym, ap, subst, ◌∙◌, arith}
use Rattle.std.specs.List.{range_with_len}
use Rattle.std.specs.Option.{option_or}
use Rattle.card_set.proofs.Finding.{found_passes}
use Rattle.card_set.proofs.NumbersOfRange.{find_nothing}
use Rattle.card_set.proofs.Options.{some_is_none}
use Rattle.card_set.proofs.Tests.{not_not}
use Rattle.chip_ledger.proofs.Same.{live_row_same_by_seats}
use Rattle.chip_ledger.specs.LiveRow.{flag_of}
use Rattle.chip_ledger.specs.Seat.{seats_of}
use Rattle.chip_ledger.specs.declared.live_row.LiveRow.{LiveRow}
use Rattle.hand_canon.specs.Sound.{IsSound}
use Rattle.hand_canon.proofs.NoteLaws.{notes_same}
use Rattle.hand_canon.proofs.NoteTexts.{texts_same}
use Rattle.hand_canon.specs.NoteTable.{note_names, text_named}
use Rattle.hand_canon.specs.SaidNotes.{SaidNotes, notes_of}
use Rattle.hand_canon.specs.SameHands.{AreSameHand}
use Rattle.hand_canon.specs.declared.notes.NoteName.{NoteName}
use Rattle.hand_canon.specs.declared.notes.NoteName.TheVariants as names
use Rattle.hand_canon.specs.declared.trace.Play.{Play}
use Rattle.hand_canon.specs.declared.trace.Trace.{Trace}
use Rattle.play_event.specs.declared.setup.Setup.{Setup}
use Rattle.hand_differences.proofs.ExactTests.{exact_bytes, exact_clocks, exact_lists, exact_moves, exact_numbers, exact_options, exact_places, exact_tests}
use Rattle.hand_differences.proofs.FirstNumbers.{find_never, none_of_same, same_of_none}
use Rattle.hand_differences.proofs.SameCores.{AreAlike, one_trace}
use Rattle.hand_differences.proofs.SameSetups.{no_rows, setup_of_rows}
use Rattle.hand_differences.specs.FirstDifference.{PlainDifference, Note, Shown, card_difference, card_reported, reported_difference, first_holding, agree_on_note, move_difference, move_reported, note_difference, play_difference, setup_rows, shown_difference}
use Rattle.hand_differences.specs.FirstNumbers.{entry_at, first_other_number, is_same_at}
use Rattle.hand_differences.specs.SameParts.{is_same_clock, is_same_move, is_same_option, is_same_place, is_same_test, is_same_text}

-- ---- no difference between two values

-- neither of the two
pub neither : {A : Type 0} (a b : Option A) → option_or a b ≡ None → (a ≡ None) × (b ≡ None)
neither None b none = (refl, none)
neither (Some x) b none = absurd (some_is_none none)

both : {A : Type 0} (a b : Option A) → a ≡ None → b ≡ None → option_or a b ≡ None
both None b one other = other
both (Some x) b one other = absurd (some_is_none one)

-- what is made of nothing
pub made_none : {A B : Type 0} (f : A → B) (a : Option A) → option_map f a ≡ None → a ≡ None
made_none f None none = refl
made_none f (Some x) none = absurd (some_is_none none)

-- ---- lists

-- where two lists differ, one of them has an entry
entry_there : {A : Type 0} (same : A → A → Bool) (a b : Option A) → not (is_same_option same a b) ≡ true → option_or a b ≡ None → ⊥
entry_there same None None other none = absurd (cc)
entry_there same None (Some y) other none = some_is_none none
entry_there same (Some x) b other none = some_is_none none

-- lists without a reported difference have no number at which they differ
number_none : {A : Type 0} (same : A → A → Bool) (make : ℕ → A → PlainDifference) (xs ys : List A)
    → option_and_then (λ number. option_map (make number) (entry_at xs ys number)) (first_other_number same xs ys) ≡ None → first_other_number same xs ys ≡ None
number_none {A} same make xs ys none = go (first_other_number same xs ys) refl none
  where
    go : (found : Option ℕ) → first_other_number same xs ys ≡ found → option_and_then (λ number. option_map (make number) (entry_at xs ys number)) found ≡ None → found ≡ None
    go None is none = refl
    go (Some number) is none =
        absurd (entry_there same (slice_get xs (number - 1)) (slice_get ys (number - 1))
        (found_passes (λ number. not (is_same_at same xs ys number)) (range_with_len 1 (max (length xs) (length ys))) number is)
        (made_none (make number) (entry_at xs ys number) none))

-- ---- who was shown

shown_of_none : (a b : LiveRow) → a.seats ≡ b.seats → shown_difference a b ≡ None → a ≡ b
shown_of_none a b seats none =
    live_row_same_by_seats a b seats (λ seat least most.
    exact_tests.one (flag_of a seat) (flag_of b seat) (not_not (is_same_test (flag_of a seat) (flag_of b seat))
    (find_nothing (λ seat. not (is_same_test (flag_of a seat) (flag_of b seat))) 1 a.seats (made_none Shown (find (λ seat. not (is_same_test (flag_of a seat) (flag_of b seat))) (seats_of a.seats)) none) seat least (omega (arith, most)))))

none_of_shown : (a : LiveRow) → shown_difference a a ≡ None
none_of_shown a = ap (option_map Shown) (find_never (λ seat. not (is_same_test (flag_of a seat) (flag_of a seat))) 1 a.seats (λ seat. ap not (exact_tests.own (flag_of a seat))))

-- ---- notes

-- each note of a list in which none differs is the same
note_at : (a b : SaidNotes) (first : NoteName) (rest : List NoteName) → find (λ name. not (agree_on_note a b name)) (first ∷ rest) ≡ None → (agree_on_note a b first ≡ true) × (find (λ name. not (agree_on_note a b name)) rest ≡ None)
note_at a b first rest none = go (agree_on_note a b first) none
  where
    go : (same : Bool) → cond (not same) (Some first) (find (λ name. not (agree_on_note a b name)) rest) ≡ None → (same ≡ true) × (find (λ name. not (agree_on_note a b name)) rest ≡ None)
    go true none = (refl, none)
    go false none = absurd (some_is_none none)

-- the notes after each note
abbrev after_day : List NoteName
after_day = names.Time ∷ []

abbrev after_month : List NoteName
after_month = names.Day ∷ after_day

abbrev after_year : List NoteName
after_year = names.Month ∷ after_month

abbrev after_zone : List NoteName
after_zone = names.Year ∷ after_year

abbrev after_currency : List NoteName
after_currency = names.TimeZone ∷ after_zone

abbrev after_venue : List NoteName
after_venue = names.Currency ∷ after_currency

abbrev after_table : List NoteName
after_table = names.Venue ∷ after_venue

abbrev after_hand : List NoteName
after_hand = names.Table ∷ after_table

abbrev after_seat_count : List NoteName
after_seat_count = names.Hand ∷ after_hand

abbrev after_seats : List NoteName
after_seats = names.SeatCount ∷ after_seat_count

abbrev after_players : List NoteName
after_players = names.Seats ∷ after_seats

notes_of_none : (a b : SaidNotes) → note_difference a b ≡ None → a ≡ b
notes_of_none a b none =
    let text = exact_options bytes_eq exact_bytes in
    let number = exact_options (λ (x y : ℕ). x == y) exact_numbers in
    let players = note_at a b names.Players after_players (made_none Note (find (λ name. not (agree_on_note a b name)) note_names) none) in
    let seats = note_at a b names.Seats after_seats players.1 in
    let seat_count = note_at a b names.SeatCount after_seat_count seats.1 in
    let hand = note_at a b names.Hand after_hand seat_count.1 in
    let table = note_at a b names.Table after_table hand.1 in
    let venue = note_at a b names.Venue after_venue table.1 in
    let currency = note_at a b names.Currency after_currency venue.1 in
    let zone = note_at a b names.TimeZone after_zone currency.1 in
    let year = note_at a b names.Year after_year zone.1 in
    let month = note_at a b names.Month after_month year.1 in
    let day = note_at a b names.Day after_day month.1 in
    let time = note_at a b names.Time [] day.1 in
    notes_same a b (record {
      names = (exact_lists is_same_text text).one a.names b.names players.0;
      seats = text.one a.seats b.seats seats.0;
      seat_count = number.one a.seat_count b.seat_count seat_count.0;
      hand = text.one a.hand b.hand hand.0;
      texts = texts_same a.texts b.texts (record {
        table = text.one a.texts.table b.texts.table table.0;
        venue = text.one a.texts.venue b.texts.venue venue.0;
        currency = text.one a.texts.currency b.texts.currency currency.0;
      });
      year = number.one a.year b.year year.0;
      month = number.one a.month b.month month.0;
      day = number.one a.day b.day day.0;
      time = (exact_options is_same_clock exact_clocks).one a.time b.time time.0;
      zone = text.one a.zone b.zone zone.0;
    })

own_note : (a : SaidNotes) (name : NoteName) → agree_on_note a a name ≡ true
own_note a names.Players = (exact_lists is_same_text (exact_options bytes_eq exact_bytes)).own a.names
own_note a names.Seats = (exact_options bytes_eq exact_bytes).own a.seats
own_note a names.SeatCount = (exact_options (λ (x y : ℕ). x == y) exact_numbers).own a.seat_count
own_note a names.Hand = (exact_options bytes_eq exact_bytes).own a.hand
own_note a names.TimeZone = (exact_options bytes_eq exact_bytes).own a.zone
own_note a names.Year = (exact_options (λ (x y : ℕ). x == y) exact_numbers).own a.year
own_note a names.Month = (exact_options (λ (x y : ℕ). x == y) exact_numbers).own a.month
own_note a names.Day = (exact_options (λ (x y : ℕ). x == y) exact_numbers).own a.day
own_note a names.Time = (exact_options is_same_clock exact_clocks).own a.time
own_note a name = (exact_options bytes_eq exact_bytes).own (text_named a.texts name)

no_note : (a : SaidNotes) (some : List NoteName) → find (λ name. not (agree_on_note a a name)) some ≡ None
no_note a [] = refl
no_note a (name ∷ rest) = ap (λ b. cond (not b) (Some name) (find (λ name. not (agree_on_note a a name)) rest)) (own_note a name) ∙ no_note a rest

none_of_notes : (a : SaidNotes) → note_difference a a ≡ None
none_of_notes a = ap (option_map Note) (no_note a note_names)

-- ---- plays

-- what is compared of plays without a difference is the same
alike_of_none : (play other : Play) → IsSound play → IsSound other → play_difference play other ≡ None → AreAlike play.trace other.trace
alike_of_none play other sound too none =
    let setups = neither (first_holding (setup_rows play.trace.setup other.trace.setup)) _ none in
    let moved = neither (move_difference play.trace.moves other.trace.moves) _ setups.1 in
    let dealt = neither (card_difference play.trace.places other.trace.places) _ moved.1 in
    let setup : play.trace.setup ≡ other.trace.setup = setup_of_rows play.trace.setup other.trace.setup setups.0 in
    let seats : play.trace.shown.seats ≡ other.trace.shown.seats =
    sound.trace.seats.shown ∙ ap (λ (s : Setup). s.stacks.seats) (sym sound.trace.same_setup ∙ setup ∙ too.trace.same_setup) ∙ sym too.trace.seats.shown in
    record {
      setup = setup;
      moves = same_of_none is_same_move exact_moves play.trace.moves other.trace.moves (number_none is_same_move move_reported play.trace.moves other.trace.moves moved.0);
      places = same_of_none is_same_place exact_places play.trace.places other.trace.places (number_none is_same_place card_reported play.trace.places other.trace.places dealt.0);
      shown = shown_of_none play.trace.shown other.trace.shown seats dealt.1;
    }

made_of_none : {A : Type 0} (make : ℕ → Option A) (found : Option ℕ) → found ≡ None → option_and_then make found ≡ None
made_of_none make None none = refl
made_of_none make (Some number) none = absurd (some_is_none none)

-- a trace does not differ from itself
none_of_trace : (play other : Play) → play.trace ≡ other.trace → play_difference play other ≡ None
none_of_trace play other same =
    subst (λ (trace : Trace). option_or (first_holding (setup_rows play.trace.setup trace.setup)) (option_or (move_difference play.trace.moves trace.moves) (option_or (card_difference play.trace.places trace.places) (shown_difference play.trace.shown trace.shown))) ≡ None) same
    (both (first_holding (setup_rows play.trace.setup play.trace.setup)) _ (no_rows play.trace.setup)
    (both (move_difference play.trace.moves play.trace.moves) _ (made_of_none _ (first_other_number is_same_move play.trace.moves play.trace.moves) (none_of_same is_same_move exact_moves play.trace.moves))
    (both (card_difference play.trace.places play.trace.places) _ (made_of_none _ (first_other_number is_same_place play.trace.places play.trace.places) (none_of_same is_same_place exact_places play.trace.places))
    (none_of_shown play.trace.shown))))

-- sound plays differ in nothing but their notes if and only if they have the same trace
pub same_traces : (place : ℕ) (play other : Play) → IsSound play → IsSound other → (reported_difference false place play other ≡ None) ↔ (play.trace ≡ other.trace)
unfolding reported_difference
same_traces place play other sound too = (
  (λ none. one_trace play other sound too (alike_of_none play other sound too (neither (play_difference play other) None none).0)),
  (λ same. both (play_difference play other) None (none_of_trace play other same) refl),
)

-- and in nothing at all if and only if they also have the same notes
pub same_with_notes : (place : ℕ) (play other : Play) → IsSound play → IsSound other → (reported_difference true place play other ≡ None) ↔ AreSameHand (λ notes. notes) place play other
unfolding reported_difference
same_with_notes place play other sound too = (
  (λ none.
      let it = neither (play_difference play other) (note_difference (notes_of place play) (notes_of place other)) none in
      record {
        trace = one_trace play other sound too (alike_of_none play other sound too it.0);
        notes = notes_of_none (notes_of place play) (notes_of place other) it.1;
      }),
  (λ same.
      both (play_difference play other) (note_difference (notes_of place play) (notes_of place other)) (none_of_trace play other same.trace)
      (subst (λ (notes : SaidNotes). note_difference (notes_of place play) notes ≡ None) same.notes (none_of_notes (notes_of place play)))),
)
