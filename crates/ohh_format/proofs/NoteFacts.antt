-- Which facts of a play Open Hand History cannot write is determined by its trace and its notes.
use Rattle.std.proofs.Common.{◌≡◌, ℕ, ◌↔◌, ◌||◌, Bool, true, false, cond, bytes_eq, codes, List, take, Option, Some, None, is_some, is_none, option_and_then, option_map, refl, sym, ap, ap₂, subst, ◌∙◌, true≢false}
use Rattle.std.proofs.lemmas.Slice.Eq.{bytes_eq-Decides}
use Rattle.hand_canon.specs.Sound.{IsSound}
use Rattle.hand_canon.specs.WriteRefusals.{or_behind}
use Rattle.hand_canon.specs.declared.notes.Clock.{Clock}
use Rattle.hand_canon.specs.declared.notes.NoteName.TheVariants as names
use Rattle.hand_canon.specs.declared.notes.Notes.{Notes}
use Rattle.hand_canon.specs.declared.trace.Play.{Play}
use Rattle.hand_canon.specs.declared.trace.Trace.{Trace}
use Rattle.hand_canon.specs.declared.writing.Keep.{Keep}
use Rattle.hand_canon.specs.declared.writing.Keep.TheVariants as keeps
use Rattle.hand_canon.specs.declared.writing.Unspelled.TheVariants as facts
use Rattle.card_set.proofs.Options.{from_none_some}
use Rattle.ohh_format.proofs.SoundPlays.{fact_holds}
use Rattle.ohh_writing.specs.Moment.{moment_of, moment_said}
use Rattle.ohh_writing.specs.Seating.{is_circular, numbers_spelled}
use Rattle.ohh_writing.specs.Spelled.{Tried, first_unspelled, has_spelled_numbers, is_spelled_date, kept_facts, note_facts, trace_facts, unspelled}
use Rattle.hand_canon.specs.declared.notes.Moment.{Moment}
use Rattle.hand_canon.proofs.NoteLaws.{AreUnusual, notes_same, unusual_said}
use Rattle.hand_canon.specs.SaidNotes.{SaidNotes, notes_of, numbers_said, said_notes}
use Rattle.hand_canon.specs.SameHands.{AreSameHand}
use Rattle.ohh_format.specs.KeptNotes.{kept_in_ohh, numbers_round}
use Rattle.hand_canon.proofs.UnusualNumbers.{unusual}
use Rattle.hand_canon.proofs.Refusals.{both_none, none_both}

-- ---- notes that say the same

-- unusual numbers can be written if those that are noted can
abbrev said_round : Option (List ℕ) → Bool
said_round None = true
said_round (Some numbers) = is_circular numbers

numbers_round_said : (count : ℕ) (said : Option (List ℕ)) → AreUnusual count said → (is_none said || is_some (numbers_spelled count said)) ≡ said_round (numbers_said count said)
numbers_round_said count None are = refl
numbers_round_said count (Some numbers) are = by_test (is_circular (take count numbers)) refl ∙ ap said_round (sym (unusual_said count (Some numbers) are))
  where
    by_test : (round : Bool) → is_circular (take count numbers) ≡ round → is_some (cond round (Some numbers) None) ≡ is_circular (take count numbers)
    by_test true goes = sym goes
    by_test false goes = sym goes

facts_same : (place count : ℕ) (a b : Notes) → AreUnusual count a.seats → AreUnusual count b.seats → said_notes place count a ≡ said_notes place count b → note_facts count a ≡ note_facts count b
facts_same place count a b are too same =
    let seats : has_spelled_numbers count a ≡ has_spelled_numbers count b =
    numbers_round_said count a.seats are ∙ ap (λ (n : SaidNotes). said_round n.seats) same ∙ sym (numbers_round_said count b.seats too) in
    let zone : a.zone ≡ b.zone = ap (λ (n : SaidNotes). n.zone) same in
    let year : a.year ≡ b.year = ap (λ (n : SaidNotes). n.year) same in
    let month : a.month ≡ b.month = ap (λ (n : SaidNotes). n.month) same in
    let day : a.day ≡ b.day = ap (λ (n : SaidNotes). n.day) same in
    let time : a.time ≡ b.time = ap (λ (n : SaidNotes). n.time) same in
    cc

-- plays that say the same have the same first fact that cannot be written
pub one_fact : (keep : Keep) (place : ℕ) (play other : Play) → IsSound play → IsSound other → AreSameHand (λ notes. notes) place play other → unspelled keep play ≡ unspelled keep other
unfolding unspelled
one_fact keep place play other sound too same = by_keep keep
  where
    facts_are : note_facts play.trace.setup.stacks.seats play.hand.notes ≡ note_facts other.trace.setup.stacks.seats other.hand.notes
    facts_are =
        let count = play.trace.setup.stacks.seats in
        let there : said_notes place count play.hand.notes ≡ said_notes place count other.hand.notes =
        same.notes ∙ ap (λ (trace : Trace). said_notes place trace.setup.stacks.seats other.hand.notes) (sym same.trace) in
        let unusual_there : AreUnusual count other.hand.notes.seats =
        subst (λ (trace : Trace). AreUnusual trace.setup.stacks.seats other.hand.notes.seats) (sym same.trace) (unusual other too) in
        facts_same place count play.hand.notes other.hand.notes (unusual play sound) unusual_there there
        ∙ ap (λ (trace : Trace). note_facts trace.setup.stacks.seats other.hand.notes) same.trace

    by_keep : (keep : Keep) → or_behind (first_unspelled (trace_facts play.trace)) (first_unspelled (kept_facts keep play)) ≡ or_behind (first_unspelled (trace_facts other.trace)) (first_unspelled (kept_facts keep other))
    by_keep keeps.All = ap₂ (λ (trace : Trace) (tried : Tried). or_behind (first_unspelled (trace_facts trace)) (first_unspelled tried)) same.trace facts_are
    by_keep keeps.Spelled = ap (λ (trace : Trace). or_behind (first_unspelled (trace_facts trace)) None) same.trace

-- if only those notes are kept that can be written, the trace alone decides
pub trace_fact : (play other : Play) → play.trace ≡ other.trace → unspelled keeps.Spelled play ≡ unspelled keeps.Spelled other
unfolding unspelled
trace_fact play other same = ap (λ (trace : Trace). or_behind (first_unspelled (trace_facts trace)) None) same

-- ---- notes that can all be written

-- each note can be written
record AreSpelled (count : ℕ) (a : Notes) : Type 0 where
  seats : has_spelled_numbers count a ≡ true
  zone : is_spelled_date a a.zone ≡ true
  year : is_spelled_date a a.year ≡ true
  month : is_spelled_date a a.month ≡ true
  day : is_spelled_date a a.day ≡ true
  time : is_spelled_date a a.time ≡ true

spelled_notes : (count : ℕ) (a : Notes) → first_unspelled (note_facts count a) ≡ None → AreSpelled count a
spelled_notes count a none =
    let one = fact_holds (has_spelled_numbers count a) (facts.Note names.Seats) _ none in
    let two = fact_holds (is_spelled_date a a.zone) (facts.Note names.TimeZone) _ one.1 in
    let three = fact_holds (is_spelled_date a a.year) (facts.Note names.Year) _ two.1 in
    let four = fact_holds (is_spelled_date a a.month) (facts.Note names.Month) _ three.1 in
    let five = fact_holds (is_spelled_date a a.day) (facts.Note names.Day) _ four.1 in
    let six = fact_holds (is_spelled_date a a.time) (facts.Note names.Time) _ five.1 in
    record { seats = one.0; zone = two.0; year = three.0; month = four.0; day = five.0; time = six.0 }

notes_spelled : (count : ℕ) (a : Notes) → AreSpelled count a → first_unspelled (note_facts count a) ≡ None
notes_spelled count a are = rw (are.seats, are.zone, are.year, are.month, are.day, are.time) refl

-- numbers that go round are kept, and those that are kept go round
round_kept : (said : Option (List ℕ)) → said_round said ≡ true → option_and_then numbers_round said ≡ said
round_kept None goes = refl
round_kept (Some numbers) goes = ap (λ (b : Bool). cond b (Some numbers) None) goes

kept_round : (said : Option (List ℕ)) → option_and_then numbers_round said ≡ said → said_round said ≡ true
kept_round None kept = refl
kept_round (Some numbers) kept = by_test (is_circular numbers) kept
  where
    by_test : (round : Bool) → cond round (Some numbers) None ≡ Some numbers → round ≡ true
    by_test true is = refl
    by_test false is = from_none_some is

-- the noted parts of a moment
record HasParts (moment : Moment) (y m d : Option ℕ) (t : Option Clock) (z : Option (List ℕ)) : Type 0 where
  year : y ≡ Some moment.day.year
  month : m ≡ Some moment.day.month
  day : d ≡ Some moment.day.day
  time : t ≡ Some moment.time
  zone : z ≡ Some (codes "UTC")

moment_parts : (y m d : Option ℕ) (t : Option Clock) (z : Option (List ℕ)) (moment : Moment) → moment_said y m d t z ≡ Some moment → HasParts moment y m d t z
moment_parts (Some y) (Some m) (Some d) (Some t) (Some z) moment same = by_test (bytes_eq z (codes "UTC")) refl same
  where
    by_test : (utc : Bool) → bytes_eq z (codes "UTC") ≡ utc → ◌≡◌ {A = Option Moment} (cond utc (Some (record { day = record { year = y; month = m; day = d }; time = t })) None) (Some moment) → HasParts moment (Some y) (Some m) (Some d) (Some t) (Some z)
    by_test true is one =
        record {
          year = ap (option_map (λ (found : Moment). found.day.year)) one;
          month = ap (option_map (λ (found : Moment). found.day.month)) one;
          day = ap (option_map (λ (found : Moment). found.day.day)) one;
          time = ap (option_map (λ (found : Moment). found.time)) one;
          zone = ap (λ (zone : List ℕ). Some zone) ((bytes_eq-Decides z (codes "UTC")).0 is);
        }
    by_test false is one = from_none_some one
moment_parts y m d t z moment same = from_none_some same

-- a part that is noted if the moment is, is kept
part_kept : {A : Type 0} (f : Moment → A) (said : Option A) (moment : Option Moment) → (is_none said || is_some moment) ≡ true → ((m : Moment) → moment ≡ Some m → said ≡ Some (f m)) → option_map f moment ≡ said
part_kept f None None spelled part = refl
part_kept f (Some x) None spelled part = absurd (true≢false (sym spelled))
part_kept f said (Some m) spelled part = sym (part m refl)

-- and one that is kept is noted if the moment is
kept_part : {A : Type 0} (f : Moment → A) (said : Option A) (moment : Option Moment) → option_map f moment ≡ said → (is_none said || is_some moment) ≡ true
kept_part f None moment kept = refl
kept_part f (Some x) None kept = from_none_some kept
kept_part f (Some x) (Some m) kept = refl

module _ (place count : ℕ) (a : Notes) (are_unusual : AreUnusual count a.seats) where
  all_kept : AreSpelled count a → kept_in_ohh (said_notes place count a) ≡ said_notes place count a
  all_kept are =
      let parts : (m : Moment) → moment_of a ≡ Some m → HasParts m a.year a.month a.day a.time a.zone = λ m same. moment_parts a.year a.month a.day a.time a.zone m same in
      notes_same (kept_in_ohh (said_notes place count a)) (said_notes place count a) (record {
        names = refl;
        seats = round_kept (numbers_said count a.seats) (sym (numbers_round_said count a.seats are_unusual) ∙ are.seats);
        seat_count = refl;
        hand = refl;
        texts = refl;
        year = part_kept (λ m. m.day.year) a.year (moment_of a) are.year (λ m same. (parts m same).year);
        month = part_kept (λ m. m.day.month) a.month (moment_of a) are.month (λ m same. (parts m same).month);
        day = part_kept (λ m. m.day.day) a.day (moment_of a) are.day (λ m same. (parts m same).day);
        time = part_kept (λ m. m.time) a.time (moment_of a) are.time (λ m same. (parts m same).time);
        zone = part_kept (λ m. codes "UTC") a.zone (moment_of a) are.zone (λ m same. (parts m same).zone);
      })

  kept_all : kept_in_ohh (said_notes place count a) ≡ said_notes place count a → AreSpelled count a
  kept_all kept =
      record {
        seats = numbers_round_said count a.seats are_unusual ∙ kept_round (numbers_said count a.seats) (ap (λ (n : SaidNotes). n.seats) kept);
        zone = kept_part (λ m. codes "UTC") a.zone (moment_of a) (ap (λ (n : SaidNotes). n.zone) kept);
        year = kept_part (λ m. m.day.year) a.year (moment_of a) (ap (λ (n : SaidNotes). n.year) kept);
        month = kept_part (λ m. m.day.month) a.month (moment_of a) (ap (λ (n : SaidNotes). n.month) kept);
        day = kept_part (λ m. m.day.day) a.day (moment_of a) (ap (λ (n : SaidNotes). n.day) kept);
        time = kept_part (λ m. m.time) a.time (moment_of a) (ap (λ (n : SaidNotes). n.time) kept);
      }

-- all notes of a play can be written if those that are kept are all that are noted
pub all_spelled : (place : ℕ) (play : Play) → IsSound play
    → (unspelled keeps.All play ≡ None) ↔ ((unspelled keeps.Spelled play ≡ None) × (kept_in_ohh (notes_of place play) ≡ notes_of place play))
unfolding unspelled
all_spelled place play sound =
    let count = play.trace.setup.stacks.seats in
    let notes = play.hand.notes in
    let trace_fact = first_unspelled (trace_facts play.trace) in
    let all = first_unspelled (note_facts count notes) in (
      (λ none.
          let both = both_none trace_fact all none in
          (none_both trace_fact None both.0 refl, all_kept place count notes (unusual play sound) (spelled_notes count notes both.1))),
      (λ both.
          let first = both_none trace_fact None both.0 in
          none_both trace_fact all first.0 (notes_spelled count notes (kept_all place count notes (unusual play sound) both.1))),
    )
