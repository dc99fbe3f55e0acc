-- Which facts of a play the logs of a game cannot write depends only on the play's trace and on
-- what its notes say.
use Rattle.std.proofs.Common.{◌≡◌, ℕ, ◌+◌, ◌-◌, ◌<◌, ◌↔◌, not, Bool, true, false, cond, List, [], ◌∷◌, map, slice_index_or, Option, Some, None, is_some, option_and_then, refl, sym, ap, ap₂, subst, ◌∙◌, inl, inr, arith, true≢false}
use Rattle.std.specs.List.{list_any}
use Rattle.std.proofs.lemmas.Bool.{cases_lt}
use Rattle.acpc_format.specs.Again.{kept_name}
use Rattle.acpc_game.specs.declared.game.Game.{Game}
use Rattle.acpc_format.specs.NoteFacts.{is_unspelled_hand, is_unspelled_name, plain_condition, text_conditions, time_conditions}
use Rattle.acpc_format.specs.Names.{is_spelled_hand, is_spelled_name}
use Rattle.acpc_format.specs.PlayFacts.{play_conditions}
use Rattle.acpc_format.specs.SetupFacts.{setup_conditions}
use Rattle.acpc_format.specs.Spelled.{unspelled, unspelled_note}
use Rattle.chip_ledger.specs.Seat.{seats_of}
use Rattle.first_fault.specs.Conditions.{first_where}
use Rattle.first_fault.specs.declared.limits.TheConstants.{MOST_HANDS}
use Rattle.hand_canon.specs.SaidNotes.{SaidNotes, hand_name_noted, name_said, notes_of, numbers_said, said_notes}
use Rattle.hand_canon.specs.Sound.{IsSound}
use Rattle.hand_canon.specs.AllowedNotes.{AreAllowed}
use Rattle.hand_canon.specs.NoteTable.{no_texts, text_names, texts_of}
use Rattle.hand_canon.specs.WriteRefusals.{or_behind}
use Rattle.hand_canon.specs.declared.notes.NoteName.TheVariants as names
use Rattle.hand_canon.specs.declared.notes.Notes.{Notes}
use Rattle.hand_canon.specs.declared.notes.TextNotes.{TextNotes}
use Rattle.hand_canon.specs.declared.trace.Play.{Play}
use Rattle.hand_canon.specs.declared.trace.Trace.{Trace}
use Rattle.hand_canon.specs.declared.writing.Keep.{Keep}
use Rattle.hand_canon.specs.declared.writing.Keep.TheVariants as keeps
use Rattle.hand_canon.specs.declared.writing.Unspelled.{Unspelled}
use Rattle.hand_canon.specs.declared.writing.Unspelled.TheVariants as facts
use Rattle.play_event.specs.declared.setup.Setup.{Setup}
use Rattle.acpc_format.proofs.OneForm.{hand_fact, numbers_some}
use Rattle.acpc_format.specs.KeptNotes.{kept_in_acpc, number_spelled}
use Rattle.hand_canon.proofs.NoteLaws.{AreUnusual, all_alike, at_seat, fails_all, fails_at, notes_same, tests_alike}
use Rattle.hand_canon.proofs.NoteTexts as note_texts
use Rattle.hand_canon.specs.SameHands.{AreSameHand}
use Rattle.hand_canon.proofs.UnusualNumbers.{unusual}
use Rattle.hand_canon.proofs.Refusals.{both_none, none_both}
use Rattle.acpc_format.proofs.SpelledFacts.{where_none}

-- the notes of a sound play are those of the seats of its trace
allowed : (play : Play) → IsSound play → AreAllowed play.trace.setup.stacks.seats play.hand.notes
allowed play sound = subst (λ (setup : Setup). AreAllowed setup.stacks.seats play.hand.notes) (sym sound.trace.same_setup) sound.notes

-- ---- notes that say the same

module _ (place count : ℕ) (few : place < MOST_HANDS) (a b : Notes) (is : AreAllowed count a) (it : AreAllowed count b) (unusual_is : AreUnusual count a.seats) (unusual_it : AreUnusual count b.seats)
    (same : said_notes place count a ≡ said_notes place count b) where
  texts_same : text_conditions a ≡ text_conditions b
  texts_same =
      let names_are : list_any is_unspelled_name a.names ≡ list_any is_unspelled_name b.names =
      tests_alike is_unspelled_name refl a.names b.names (all_alike count a.names b.names (ap (λ (n : SaidNotes). n.names) same) is.no_more_names it.no_more_names) in
      let seats : is_some a.seats ≡ is_some b.seats = numbers_some count a.seats unusual_is ∙ ap (λ (n : SaidNotes). is_some n.seats) same ∙ sym (numbers_some count b.seats unusual_it) in
      let hand : is_unspelled_hand a.hand ≡ is_unspelled_hand b.hand = hand_fact place a.hand few ∙ ap (λ (n : SaidNotes). is_unspelled_hand n.hand) same ∙ sym (hand_fact place b.hand few) in
      let seat_count : a.seat_count ≡ b.seat_count = ap (λ (n : SaidNotes). n.seat_count) same in
      let plain : map (plain_condition (texts_of a)) text_names ≡ map (plain_condition (texts_of b)) text_names =
      ap (λ (n : SaidNotes). map (plain_condition n.texts) text_names) same in
      cc

  times_same : time_conditions a ≡ time_conditions b
  times_same =
      let zone : a.zone ≡ b.zone = ap (λ (n : SaidNotes). n.zone) same in
      let year : a.year ≡ b.year = ap (λ (n : SaidNotes). n.year) same in
      let month : a.month ≡ b.month = ap (λ (n : SaidNotes). n.month) same in
      let day : a.day ≡ b.day = ap (λ (n : SaidNotes). n.day) same in
      let time : a.time ≡ b.time = ap (λ (n : SaidNotes). n.time) same in
      cc

  note_same : (keep : Keep) → unspelled_note keep a ≡ unspelled_note keep b
  unfolding unspelled_note
  note_same keeps.All = ap₂ (λ texts times. or_behind (first_where texts) (first_where times)) texts_same times_same
  note_same keeps.Spelled = refl

-- two plays that say the same have the same first fact that cannot be written
pub one_fact : (game : Game) (keep : Keep) (place : ℕ) (play other : Play) → place < MOST_HANDS → IsSound play → IsSound other → AreSameHand (λ notes. notes) place play other
    → unspelled game keep play ≡ unspelled game keep other
unfolding unspelled
one_fact game keep place play other few sound too same =
    let count = play.trace.setup.stacks.seats in
    let back : (P : ℕ → Type 0) → P other.trace.setup.stacks.seats → P count = λ P is. subst (λ (trace : Trace). P trace.setup.stacks.seats) (sym same.trace) is in
    let there : said_notes place count play.hand.notes ≡ said_notes place count other.hand.notes =
    same.notes ∙ ap (λ (trace : Trace). said_notes place trace.setup.stacks.seats other.hand.notes) (sym same.trace) in
    let note = note_same place count few play.hand.notes other.hand.notes (allowed play sound) (back (λ n. AreAllowed n other.hand.notes) (allowed other too)) (unusual play sound) (back (λ n. AreUnusual n other.hand.notes.seats) (unusual other too)) there keep in
    ap₂ (λ (trace : Trace) (fact : Option Unspelled). or_behind (first_where (setup_conditions game trace.setup)) (or_behind (first_where (play_conditions game trace)) fact)) same.trace note

-- if only notes that can be written are kept, the trace alone decides it
pub trace_fact : (game : Game) (play other : Play) → play.trace ≡ other.trace → unspelled game keeps.Spelled play ≡ unspelled game keeps.Spelled other
unfolding unspelled unspelled_note
trace_fact game play other same =
    ap (λ (trace : Trace). or_behind (first_where (setup_conditions game trace.setup)) (or_behind (first_where (play_conditions game trace)) None)) same

-- ---- notes that can all be written

-- a line can write each note
record AreSpelled (a : Notes) : Type 0 where
  names : list_any is_unspelled_name a.names ≡ false
  seats : is_some a.seats ≡ false
  seat_count : is_some a.seat_count ≡ false
  hand : is_unspelled_hand a.hand ≡ false
  texts : texts_of a ≡ no_texts
  zone : is_some a.zone ≡ false
  year : is_some a.year ≡ false
  month : is_some a.month ≡ false
  day : is_some a.day ≡ false
  time : is_some a.time ≡ false

none_is : {A : Type 0} (said : Option A) → is_some said ≡ false → said ≡ None
none_is None none = refl
none_is (Some a) none = absurd (true≢false none)

-- none of the plain texts is noted
record IsNoPlain (texts : TextNotes) : Type 0 where
  table : is_some texts.table ≡ false
  venue : is_some texts.venue ≡ false
  currency : is_some texts.currency ≡ false

plain_none : (texts : TextNotes) → first_where (map (plain_condition texts) text_names) ≡ None → texts ≡ no_texts
plain_none texts none =
    let table = where_none (is_some texts.table) (facts.Note names.Table) _ none in
    let venue = where_none (is_some texts.venue) (facts.Note names.Venue) _ table.1 in
    let currency = where_none (is_some texts.currency) (facts.Note names.Currency) _ venue.1 in
    note_texts.texts_same texts no_texts (record {
      table = none_is texts.table table.0;
      venue = none_is texts.venue venue.0;
      currency = none_is texts.currency currency.0;
    })

none_plain : (texts : TextNotes) → texts ≡ no_texts → IsNoPlain texts
none_plain texts none = subst IsNoPlain (sym none) (record { table = refl; venue = refl; currency = refl })

spelled_notes : (a : Notes) → unspelled_note keeps.All a ≡ None → AreSpelled a
unfolding unspelled_note
spelled_notes a none =
    let both = both_none (first_where (text_conditions a)) (first_where (time_conditions a)) none in
    let one = where_none (list_any is_unspelled_name a.names) (facts.Note names.Players) _ both.0 in
    let two = where_none (is_some a.seats) (facts.Note names.Seats) _ one.1 in
    let three = where_none (is_some a.seat_count) (facts.Note names.SeatCount) _ two.1 in
    let four = where_none (is_unspelled_hand a.hand) (facts.Note names.Hand) _ three.1 in
    let five = where_none (is_some a.zone) (facts.Note names.TimeZone) _ both.1 in
    let six = where_none (is_some a.year) (facts.Note names.Year) _ five.1 in
    let seven = where_none (is_some a.month) (facts.Note names.Month) _ six.1 in
    let eight = where_none (is_some a.day) (facts.Note names.Day) _ seven.1 in
    let nine = where_none (is_some a.time) (facts.Note names.Time) _ eight.1 in
    record {
      names = one.0;
      seats = two.0;
      seat_count = three.0;
      hand = four.0;
      texts = plain_none (texts_of a) four.1;
      zone = five.0;
      year = six.0;
      month = seven.0;
      day = eight.0;
      time = nine.0;
    }

notes_spelled : (a : Notes) → AreSpelled a → unspelled_note keeps.All a ≡ None
unfolding unspelled_note
notes_spelled a are =
    let texts = none_plain (texts_of a) are.texts in
    rw (are.names, are.seats, are.seat_count, are.hand, texts.table, texts.venue, texts.currency, are.zone, are.year, are.month, are.day, are.time) refl

-- a name that can be written is kept, and a name that is kept can be written
name_kept : (name : Option (List ℕ)) → is_unspelled_name name ≡ false → kept_name name ≡ name
name_kept None spelled = refl
name_kept (Some text) spelled = by_test (is_spelled_name text) spelled
  where
    by_test : (test : Bool) → not test ≡ false → cond test (Some text) None ≡ Some text
    by_test true is = refl
    by_test false is = absurd (true≢false is)

kept_spelled : (name : Option (List ℕ)) → kept_name name ≡ name → is_unspelled_name name ≡ false
kept_spelled None kept = refl
kept_spelled (Some text) kept = by_test (is_spelled_name text) kept
  where
    by_test : (test : Bool) → cond test (Some text) None ≡ Some text → not test ≡ false
    by_test true is = refl
    by_test false is = absurd (cc (is))

-- and so is a number
number_kept : (said : Option (List ℕ)) → is_unspelled_hand said ≡ false → option_and_then number_spelled said ≡ said
number_kept None spelled = refl
number_kept (Some text) spelled = by_test (is_spelled_hand text) spelled
  where
    by_test : (test : Bool) → not test ≡ false → cond test (Some text) None ≡ Some text
    by_test true is = refl
    by_test false is = absurd (true≢false is)

kept_number : (said : Option (List ℕ)) → option_and_then number_spelled said ≡ said → is_unspelled_hand said ≡ false
kept_number None kept = refl
kept_number (Some text) kept = by_test (is_spelled_hand text) kept
  where
    by_test : (test : Bool) → cond test (Some text) None ≡ Some text → not test ≡ false
    by_test true is = refl
    by_test false is = absurd (cc (is))

each_name : (names : List (Option (List ℕ))) (seats : List ℕ) → map kept_name (map (name_said names) seats) ≡ map (λ seat. kept_name (name_said names seat)) seats
each_name names [] = refl
each_name names (seat ∷ seats) = ap (λ (rest : List (Option (List ℕ))). kept_name (name_said names seat) ∷ rest) (each_name names seats)

along : (names : List (Option (List ℕ))) (seats : List ℕ) → ((seat : ℕ) → kept_name (name_said names seat) ≡ name_said names seat) → map kept_name (map (name_said names) seats) ≡ map (name_said names) seats
along names [] each = refl
along names (seat ∷ seats) each = ap₂ (λ (first : Option (List ℕ)) (rest : List (Option (List ℕ))). first ∷ rest) (each seat) (along names seats each)

module _ (place count : ℕ) (few : place < MOST_HANDS) (a : Notes) (is : AreAllowed count a) (unusual_is : AreUnusual count a.seats) where
  -- notes that can all be written are kept
  all_kept : AreSpelled a → kept_in_acpc (said_notes place count a) ≡ said_notes place count a
  all_kept are =
      notes_same (kept_in_acpc (said_notes place count a)) (said_notes place count a) (record {
        names = along a.names (seats_of count) (λ seat. name_kept (name_said a.names seat) (fails_at is_unspelled_name refl a.names are.names (seat - 1)));
        seats = sym (ap (numbers_said count) (none_is a.seats are.seats));
        seat_count = sym (none_is a.seat_count are.seat_count);
        hand = number_kept (hand_name_noted place a.hand) (sym (hand_fact place a.hand few) ∙ are.hand);
        texts = sym are.texts;
        year = sym (none_is a.year are.year);
        month = sym (none_is a.month are.month);
        day = sym (none_is a.day are.day);
        time = sym (none_is a.time are.time);
        zone = sym (none_is a.zone are.zone);
      })

  none_some : {A : Type 0} (said : Option A) → None ≡ said → is_some said ≡ false
  none_some said none = sym (ap is_some none)

  at_kept : kept_in_acpc (said_notes place count a) ≡ said_notes place count a → (index : ℕ) → index < count → kept_name (slice_index_or a.names index None) ≡ slice_index_or a.names index None
  at_kept kept index within =
      let here : index + 1 - 1 ≡ index = omega arith in
      subst (λ (k : ℕ). kept_name (slice_index_or a.names k None) ≡ slice_index_or a.names k None) here
      (at_seat (λ seat. kept_name (name_said a.names seat)) (name_said a.names) None count (index + 1) (sym (each_name a.names (seats_of count)) ∙ ap (λ (n : SaidNotes). n.names) kept) (omega arith) (omega (arith, within)))

  -- and notes that are all kept can be written
  kept_all : kept_in_acpc (said_notes place count a) ≡ said_notes place count a → AreSpelled a
  kept_all kept =
      record {
        names = fails_all is_unspelled_name a.names (λ index. elim (cases_lt index count) [
          | inl within ↦
              kept_spelled (slice_index_or a.names index None)
              (at_kept kept index within)
          | inr late ↦ ap is_unspelled_name (is.no_more_names index late)
        ]);
        seats = numbers_some count a.seats unusual_is ∙ none_some (numbers_said count a.seats) (ap (λ (n : SaidNotes). n.seats) kept);
        seat_count = none_some a.seat_count (ap (λ (n : SaidNotes). n.seat_count) kept);
        hand = hand_fact place a.hand few ∙ kept_number (hand_name_noted place a.hand) (ap (λ (n : SaidNotes). n.hand) kept);
        texts = sym (ap (λ (n : SaidNotes). n.texts) kept);
        zone = none_some a.zone (ap (λ (n : SaidNotes). n.zone) kept);
        year = none_some a.year (ap (λ (n : SaidNotes). n.year) kept);
        month = none_some a.month (ap (λ (n : SaidNotes). n.month) kept);
        day = none_some a.day (ap (λ (n : SaidNotes). n.day) kept);
        time = none_some a.time (ap (λ (n : SaidNotes). n.time) kept);
      }

-- all notes of a play can be written if those that are kept are all that are given
pub all_spelled : (game : Game) (place : ℕ) (play : Play) → place < MOST_HANDS → IsSound play
    → (unspelled game keeps.All play ≡ None) ↔ ((unspelled game keeps.Spelled play ≡ None) × (kept_in_acpc (notes_of place play) ≡ notes_of place play))
unfolding unspelled unspelled_note
all_spelled game place play few sound =
    let count = play.trace.setup.stacks.seats in
    let notes = play.hand.notes in
    let setup_fact = first_where (setup_conditions game play.trace.setup) in
    let play_fact = first_where (play_conditions game play.trace) in
    let all = unspelled_note keeps.All notes in
    let spelled = unspelled_note keeps.Spelled notes in (
      (λ none.
          let first = both_none setup_fact (or_behind play_fact all) none in
          let second = both_none play_fact all first.1 in (
            none_both setup_fact (or_behind play_fact spelled) first.0 (none_both play_fact spelled second.0 refl),
            all_kept place count few notes (allowed play sound) (unusual play sound) (spelled_notes notes second.1),
          )),
      (λ both.
          let first = both_none setup_fact (or_behind play_fact spelled) both.0 in
          let second = both_none play_fact spelled first.1 in
          none_both setup_fact (or_behind play_fact all) first.0
          (none_both play_fact all second.0 (notes_spelled notes (kept_all place count few notes (allowed play sound) (unusual play sound) both.1)))),
    )
