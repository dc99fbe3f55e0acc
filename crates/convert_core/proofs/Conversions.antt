-- Laws of conversions, from the laws of notations: bytes have one conversion, equal outputs come
-- from equal hands, an output is converted to itself, and a conversion may go by way of another
-- notation.
use Rattle.std.proofs.Common.{◌≡◌, ℕ, ◌<◌, ◌≤◌, List, Option, Some, None, Result, Ok, Err, length, sym, ap, ◌∙◌, ◌↔◌, arith}
use Rattle.std.specs.List.{AllByRecursion}
use Rattle.first_fault.specs.declared.limits.TheConstants.{MOST_HANDS}
use Rattle.hand_canon.specs.Sound.{IsSound}
use Rattle.hand_canon.specs.WriteRefusals.{first_refusal}
use Rattle.hand_canon.specs.declared.trace.Play.{Play}
use Rattle.hand_canon.specs.declared.writing.Keep.{Keep}
use Rattle.hand_canon.specs.declared.writing.Keep.TheVariants as keeps
use Rattle.hand_canon.specs.declared.writing.Unspelled.{Unspelled}
use Rattle.hand_canon.specs.declared.writing.WriteRefusal.TheVariants as refusals
use Rattle.convert_core.specs.Answers.{Answers}
use Rattle.convert_core.specs.Lawful.{Lawful}
use Rattle.convert_core.specs.Meaning.{AreReadBack, Meaning}
use Rattle.convert_core.specs.Conversion.{HasUnspelled, IsConversion, ReadAsPlays, RefusesNothing}
use Rattle.convert_core.specs.declared.convert_fault.ConvertFault.{ConvertFault}
use Rattle.convert_core.specs.declared.convert_fault.ConvertFault.TheVariants as faults
use Rattle.convert_core.proofs.OneConversion.{refused_or_played}
use Rattle.hand_canon.specs.SaidNotes.{SaidNotes, notes_of}
use Rattle.convert_core.specs.SameAnswers.{AreSameAnswers}
use Rattle.hand_canon.specs.SameHands.{AllPaired, AreSameHand, kept_notes}
use Rattle.convert_core.proofs.Paired.{each_both, each_second, each_spelled, none_unspelled, one_refusal, paired_below, paired_both, paired_more, paired_turned}
use Rattle.convert_core.proofs.KeptByChoice.{again_spelled}
use Rattle.convert_core.proofs.LawfulNotations.{AreReadSame, IsReadAgain, all_read_same, never_refused, no_fault, read_again, read_few, read_same, read_sound}

-- ---- pairs

same_turned : (kept : SaidNotes → SaidNotes) (place : ℕ) (play other : Play) → AreSameHand kept place play other → AreSameHand kept place other play
same_turned kept place play other same = record { trace = sym same.trace; notes = sym same.notes }

same_both : (kept : SaidNotes → SaidNotes) (place : ℕ) (a b c : Play) → AreSameHand kept place a b → AreSameHand kept place b c → AreSameHand kept place a c
same_both kept place a b c same more = record { trace = same.trace ∙ more.trace; notes = same.notes ∙ more.notes }

-- hands that are the same are the same if less is kept
same_less : (kept : SaidNotes → SaidNotes) (place : ℕ) (play other : Play) → AreSameHand (λ notes. notes) place play other → AreSameHand kept place play other
same_less kept place play other same = record { trace = same.trace; notes = ap kept same.notes }

pub all_turned : (kept : SaidNotes → SaidNotes) (plays others : List Play) → AllPaired (AreSameHand kept) 0 plays others → AllPaired (AreSameHand kept) 0 others plays
all_turned kept plays others all = paired_turned (AreSameHand kept) (AreSameHand kept) (same_turned kept) 0 plays others all

pub all_both : (kept : SaidNotes → SaidNotes) (plays others more : List Play) → AllPaired (AreSameHand kept) 0 plays others → AllPaired (AreSameHand kept) 0 others more → AllPaired (AreSameHand kept) 0 plays more
all_both kept plays others more all rest = paired_both (AreSameHand kept) (AreSameHand kept) (AreSameHand kept) (same_both kept) 0 plays others more all rest

pub all_less : (kept : SaidNotes → SaidNotes) (plays others : List Play) → AllPaired (AreSameHand (λ notes. notes)) 0 plays others → AllPaired (AreSameHand kept) 0 plays others
all_less kept plays others all = paired_more (AreSameHand (λ notes. notes)) (AreSameHand kept) (same_less kept) 0 plays others all

-- ---- notes that are kept

module _ {n : Meaning} (law : Lawful n) where
  -- a sound play with all facts and notes expressed
  abbrev IsWhole : Play → Type 0
  IsWhole play = IsSound play × (n.unspelled keeps.All play ≡ None)

  each_whole : (plays : List Play) → AllByRecursion IsSound plays → first_refusal (n.unspelled keeps.All) plays ≡ None → AllByRecursion IsWhole plays
  each_whole plays sound none =
      each_both IsSound (λ play. n.unspelled keeps.All play ≡ None) IsWhole (λ play is spelled. (is, spelled)) plays sound (each_spelled (n.unspelled keeps.All) 1 plays none)

  -- plays with all their notes expressed are the same if the notes that the notation can express
  -- are
  hand_more : (place : ℕ) (play other : Play) → place < MOST_HANDS → IsWhole play → IsWhole other → AreSameHand n.kept place play other → AreSameHand (λ notes. notes) place play other
  hand_more place play other early is it same =
      record {
        trace = same.trace;
        notes = sym ((law.all_spelled place play early is.0).0 is.1).1 ∙ same.notes ∙ ((law.all_spelled place other early it.0).0 it.1).1;
      }

  all_more : (plays others : List Play) → length plays ≤ MOST_HANDS → AllByRecursion IsWhole plays → AllByRecursion IsWhole others
      → AllPaired (AreSameHand n.kept) 0 plays others → AllPaired (AreSameHand (λ notes. notes)) 0 plays others
  all_more plays others few each too all =
      paired_below MOST_HANDS (AreSameHand n.kept) (AreSameHand (λ notes. notes)) IsWhole IsWhole hand_more 0 plays others (omega (arith, few)) each too all

  -- so the choice of notes decides what is kept
  to_kept : (keep : Keep) (plays others : List Play) → AllPaired (AreSameHand (kept_notes keep n.kept)) 0 plays others → AllPaired (AreSameHand n.kept) 0 plays others
  to_kept keeps.All plays others all = all_less n.kept plays others all
  to_kept keeps.Spelled plays others all = all

  from_kept : (keep : Keep) (plays others : List Play) → length plays ≤ MOST_HANDS → AllByRecursion IsSound plays → AllByRecursion IsSound others
      → first_refusal (n.unspelled keep) plays ≡ None → first_refusal (n.unspelled keep) others ≡ None
      → AllPaired (AreSameHand n.kept) 0 plays others → AllPaired (AreSameHand (kept_notes keep n.kept)) 0 plays others
  from_kept keeps.All plays others few sound too none no_other all = all_more plays others few (each_whole plays sound none) (each_whole others too no_other) all
  from_kept keeps.Spelled plays others few sound too none no_other all = all

  whole_kept : (keep : Keep) (plays others : List Play) → AllPaired (AreSameHand (λ notes. notes)) 0 plays others → AllPaired (AreSameHand (kept_notes keep n.kept)) 0 plays others
  whole_kept keep plays others all = all_less (kept_notes keep n.kept) plays others all

-- ---- one answer to bytes

-- a fact that cannot be expressed depends only on the trace and on what the notes say
abbrev pub IsToldByHand : (Play → Option Unspelled) → Type 0
IsToldByHand unspelled = (place : ℕ) (play other : Play) → place < MOST_HANDS → IsSound play → IsSound other → AreSameHand (λ notes. notes) place play other
    → unspelled play ≡ unspelled other

-- plays that are the same have the same first refusal
pub same_refusal : (unspelled : Play → Option Unspelled) → IsToldByHand unspelled → (plays others : List Play) → AreReadSame plays others
    → first_refusal unspelled plays ≡ first_refusal unspelled others
same_refusal unspelled told plays others same =
    one_refusal unspelled 1 0 plays others
    (paired_below MOST_HANDS (AreSameHand (λ notes. notes)) (λ _ play other. unspelled play ≡ unspelled other) IsSound IsSound
    (λ place play other early is it pair. told place play other early is it pair) 0 plays others
    (omega (arith, same.few)) same.sound same.others_sound same.hands)

module _ {n : Meaning} (law : Lawful n) (bytes : List ℕ) (unspelled : Play → Option Unspelled) (told : IsToldByHand unspelled) where
  -- the plays of bytes have the same first refusal
  first_of_bytes : (plays others : List Play) → ReadAsPlays (n.Say bytes) plays → ReadAsPlays (n.Say bytes) others → first_refusal unspelled plays ≡ first_refusal unspelled others
  first_of_bytes plays others is it = same_refusal unspelled told plays others (all_read_same law bytes plays others is it)

  pub one_unspelled : (number other : ℕ) (fact too : Unspelled) → HasUnspelled (n.Say bytes) unspelled number fact → HasUnspelled (n.Say bytes) unspelled other too → (number ≡ other) × (fact ≡ too)
  one_unspelled number other fact too is it =
      let same : Some (refusals.Unspelled number fact) ≡ Some (refusals.Unspelled other too) = sym is.first ∙ first_of_bytes is.plays it.plays is.read it.read ∙ it.first in
      (cc, cc)

  pub spelled_or_not : (number : ℕ) (fact : Unspelled) (plays : List Play) → HasUnspelled (n.Say bytes) unspelled number fact → ReadAsPlays (n.Say bytes) plays → first_refusal unspelled plays ≡ None → ⊥
  spelled_or_not number fact plays is played spelled =
      let same : Some (refusals.Unspelled number fact) ≡ None = sym is.first ∙ first_of_bytes is.plays plays is.read played ∙ spelled in
      cc

  -- bytes whose hands all have their plays, with each fact to be kept expressed, are converted,
  -- unless memory runs out
  pub converted_alone : (Spell Back : List Play → List ℕ → Type 0) (plays : List Play) (answer : Result (List ℕ) ConvertFault) → ReadAsPlays (n.Say bytes) plays → first_refusal unspelled plays ≡ None
      → IsConversion (n.Say bytes) (n.HaveFault bytes) unspelled Spell Back (λ output. output) answer → RefusesNothing answer
  converted_alone Spell Back plays (Ok output) read spelled is = tt
  converted_alone Spell Back plays (Err (faults.Format fault)) read spelled is = no_fault law bytes read.records fault read.say is
  converted_alone Spell Back plays (Err (faults.Refused number why)) read spelled is = refused_or_played (n.Say bytes) (law.one_reading bytes) number why plays is read
  converted_alone Spell Back plays (Err (faults.Unspelled number fact)) read spelled is = spelled_or_not number fact plays is read spelled
  converted_alone Spell Back plays (Err (faults.Memory memory)) read spelled is = tt

-- ---- equal outputs, equal hands

pub equal_outputs : {a b n : Meaning} (first : Lawful a) (second : Lawful b) (law : Lawful n) (keep : Keep) (bytes too output written : List ℕ) (plays others : List Play)
    → ReadAsPlays (a.Say bytes) plays → ReadAsPlays (b.Say too) others → Answers a n keep bytes (Ok output) → Answers b n keep too (Ok written)
    → AllPaired (AreSameHand (kept_notes keep n.kept)) 0 plays others ↔ n.AreSame output written
equal_outputs {a} {b} {n} first second law keep bytes too output written plays others read other_read done other_done =
    let kept : SaidNotes → SaidNotes = kept_notes keep n.kept in
    let here = whole_kept law keep plays done.plays (read_same first bytes plays done.plays read done.read) in
    let there = whole_kept law keep others other_done.plays (read_same second too others other_done.plays other_read other_done.read) in
    let sound = read_sound first bytes done.plays done.read in
    let other_sound = read_sound second too other_done.plays other_done.read in
    let few = read_few first bytes done.plays done.read in
    let other_few = read_few second too other_done.plays other_done.read in (
      (λ same.
          law.one_spelling done.plays other_done.plays output written sound other_sound done.spell other_done.spell
          (to_kept law keep done.plays other_done.plays
          (all_both kept done.plays plays other_done.plays (all_turned kept plays done.plays here) (all_both kept plays others other_done.plays same there)))),
      (λ same.
          let all = law.same_hands keep done.plays other_done.plays output written few other_few sound other_sound done.spelled other_done.spelled done.spell other_done.spell same in
          let kept_all = from_kept law keep done.plays other_done.plays few.few sound other_sound done.spelled other_done.spelled all in
          all_both kept plays done.plays others here (all_both kept done.plays other_done.plays others kept_all (all_turned kept others other_done.plays there))),
    )

-- ---- an output once more

-- a play read back from one with all facts expressed has all facts expressed, whatever is kept
fact_again : {n : Meaning} (law : Lawful n) (keep once : Keep) (place : ℕ) (play again : Play) → place < MOST_HANDS → IsSound play → IsSound again → n.unspelled once play ≡ None → IsReadAgain n.kept place play again
    → n.unspelled keep again ≡ None
fact_again {n} law keep once place play again early sound too none is = by_keep keep
  where
    least : (once : Keep) → n.unspelled once play ≡ None → n.unspelled keeps.Spelled play ≡ None
    least keeps.All spelled = ((law.all_spelled place play early sound).0 spelled).0
    least keeps.Spelled spelled = spelled

    here : n.unspelled keeps.Spelled again ≡ None
    here = law.trace_fact again play is.trace ∙ least once none

    notes : n.kept (notes_of place again) ≡ notes_of place again
    notes = ap n.kept is.notes ∙ law.kept_again (notes_of place play) ∙ sym is.notes

    by_keep : (keep : Keep) → n.unspelled keep again ≡ None
    by_keep keeps.All = (law.all_spelled place again early too).1 (here, notes)
    by_keep keeps.Spelled = here

-- it is the same play, as far as notes are kept
same_again : {n : Meaning} (law : Lawful n) (place : ℕ) (play again : Play) → IsReadAgain n.kept place play again → AreSameHand n.kept place play again
same_again {n} law place play again is = record { trace = sym is.trace; notes = sym (ap n.kept is.notes ∙ law.kept_again (notes_of place play)) }

module _ {n : Meaning} (law : Lawful n) (keep once : Keep) (plays : List Play) (output : List ℕ) (few : length plays ≤ MOST_HANDS) (sound : AllByRecursion IsSound plays)
    (spelled : first_refusal (n.unspelled once) plays ≡ None) (spell : n.Spell plays output) (back : AreReadBack n (kept_notes once n.kept) plays output) where
  pairs_again : (again : List Play) → ReadAsPlays (n.Say output) again → AllPaired (IsReadAgain n.kept) 0 plays again
  pairs_again again read = again_spelled law once plays again few sound spelled (read_again n (kept_notes once n.kept) plays again output back read)

  none_again : (again : List Play) → ReadAsPlays (n.Say output) again → first_refusal (n.unspelled keep) again ≡ None
  none_again again read =
      let P : Play → Type 0 = λ play. IsSound play × (n.unspelled once play ≡ None) in
      let pairs = pairs_again again read in
      let facts : AllPaired (λ _ _ other. n.unspelled keep other ≡ None) 0 plays again =
      paired_below MOST_HANDS (IsReadAgain n.kept) (λ _ _ other. n.unspelled keep other ≡ None) P IsSound
      (λ place play other early is it pair. fact_again law keep once place play other early is.0 it is.1 pair) 0 plays again (omega (arith, few))
      (each_both IsSound (λ play. n.unspelled once play ≡ None) P (λ play is fact. (is, fact)) plays sound (each_spelled (n.unspelled once) 1 plays spelled))
      (read_sound law output again read) pairs in
      none_unspelled (n.unspelled keep) 1 again
      (each_second (λ _ _ other. n.unspelled keep other ≡ None) (λ play. IsSound play) (λ other. n.unspelled keep other ≡ None) (λ place play other is fact. fact) 0 plays again sound facts)

  pub answer_again : (answer : Result (List ℕ) ConvertFault) → Answers n n keep output answer → AreSameAnswers n.AreSame (Ok output) answer
  answer_again (Ok written) done =
      law.one_spelling plays done.plays output written sound (read_sound law output done.plays done.read) spell done.spell
      (paired_more (IsReadAgain n.kept) (AreSameHand n.kept) (same_again law) 0 plays done.plays (pairs_again done.plays done.read))
  answer_again (Err (faults.Format fault)) have = back.no_fault fault have
  answer_again (Err (faults.Refused number why)) refused = never_refused n plays output number why back refused
  answer_again (Err (faults.Unspelled number fact)) has =
      let none : first_refusal (n.unspelled keep) has.plays ≡ None = none_again has.plays has.read in
      absurd (cc (none, has.first))
  answer_again (Err (faults.Memory none_left)) memory = tt

pub output_again : {a n : Meaning} (from : Lawful a) (law : Lawful n) (once keep : Keep) (bytes output : List ℕ) (answer : Result (List ℕ) ConvertFault)
    → Answers a n once bytes (Ok output) → Answers n n keep output answer → AreSameAnswers n.AreSame (Ok output) answer
output_again {a} {n} from law once keep bytes output answer done again =
    answer_again law keep once done.plays output (read_few from bytes done.plays done.read).few (read_sound from bytes done.plays done.read) done.spelled done.spell done.back answer again

-- ---- by way of another notation

-- a play that is read back with all notes is the same
whole_again : (place : ℕ) (play again : Play) → IsReadAgain (λ notes. notes) place play again → AreSameHand (λ notes. notes) place play again
whole_again place play again pair = record { trace = sym pair.trace; notes = sym pair.notes }

module _ {a b c : Meaning} (from : Lawful a) (by : Lawful b) (to : Lawful c) (keep : Keep) (bytes output : List ℕ) (done : Answers a b keeps.All bytes (Ok output)) where
  -- what the output reads as is what the bytes read as
  by_way : (plays again : List Play) → ReadAsPlays (a.Say bytes) plays → ReadAsPlays (b.Say output) again → AllPaired (AreSameHand (λ notes. notes)) 0 plays again
  by_way plays again read read_too =
      all_both (λ notes. notes) plays done.plays again (read_same from bytes plays done.plays read done.read)
      (paired_more (IsReadAgain (λ notes. notes)) (AreSameHand (λ notes. notes)) whole_again 0 done.plays again
      (read_again b (λ notes. notes) done.plays again output done.back read_too))

  -- so both have the same first fact that cannot be expressed
  one_first : (plays again : List Play) → ReadAsPlays (a.Say bytes) plays → ReadAsPlays (b.Say output) again → first_refusal (c.unspelled keep) plays ≡ first_refusal (c.unspelled keep) again
  one_first plays again read read_too =
      one_refusal (c.unspelled keep) 1 0 plays again
      (paired_below MOST_HANDS (AreSameHand (λ notes. notes)) (λ _ play other. c.unspelled keep play ≡ c.unspelled keep other) IsSound IsSound
      (λ place play other early is it pair. to.same_fact keep place play other early is it pair) 0 plays again
      (omega (arith, (read_few from bytes plays read).few)) (read_sound from bytes plays read) (read_sound by output again read_too) (by_way plays again read read_too))

  done_or_not : (plays again : List Play) (number : ℕ) (fact : Unspelled) → ReadAsPlays (a.Say bytes) plays → ReadAsPlays (b.Say output) again
      → first_refusal (c.unspelled keep) plays ≡ None → first_refusal (c.unspelled keep) again ≡ Some (refusals.Unspelled number fact) → ⊥
  done_or_not plays again number fact read read_too none some = (let same = one_first plays again read read_too in cc)

  not_or_done : (plays again : List Play) (number : ℕ) (fact : Unspelled) → ReadAsPlays (a.Say bytes) plays → ReadAsPlays (b.Say output) again
      → first_refusal (c.unspelled keep) plays ≡ Some (refusals.Unspelled number fact) → first_refusal (c.unspelled keep) again ≡ None → ⊥
  not_or_done plays again number fact read read_too some none = (let same = one_first plays again read read_too in cc)

  pub same_answers : (first second : Result (List ℕ) ConvertFault) → Answers a c keep bytes first → Answers b c keep output second → AreSameAnswers c.AreSame first second
  same_answers (Err (faults.Format fault)) second is it = absurd (no_fault from bytes done.read.records fault done.read.say is)
  same_answers (Err (faults.Refused number why)) second is it = absurd (refused_or_played (a.Say bytes) (from.one_reading bytes) number why done.plays is done.read)
  same_answers (Ok written) (Ok again) is it =
      to.one_spelling is.plays it.plays written again (read_sound from bytes is.plays is.read) (read_sound by output it.plays it.read) is.spell it.spell
      (all_less c.kept is.plays it.plays (by_way is.plays it.plays is.read it.read))
  same_answers (Ok written) (Err (faults.Format fault)) is it = done.back.no_fault fault it
  same_answers (Ok written) (Err (faults.Refused number why)) is it = never_refused b done.plays output number why done.back it
  same_answers (Ok written) (Err (faults.Unspelled number fact)) is it = done_or_not is.plays it.plays number fact is.read it.read is.spelled it.first
  same_answers (Ok written) (Err (faults.Memory memory)) is it = tt
  same_answers (Err (faults.Unspelled number fact)) (Ok again) is it = not_or_done is.plays it.plays number fact is.read it.read is.first it.spelled
  same_answers (Err (faults.Unspelled number fact)) (Err (faults.Format other)) is it = done.back.no_fault other it
  same_answers (Err (faults.Unspelled number fact)) (Err (faults.Refused other why)) is it = never_refused b done.plays output other why done.back it
  same_answers (Err (faults.Unspelled number fact)) (Err (faults.Unspelled other too)) is it =
      let same : Some (refusals.Unspelled number fact) ≡ Some (refusals.Unspelled other too) = sym is.first ∙ one_first is.plays it.plays is.read it.read ∙ it.first in
      (cc, cc)
  same_answers (Err (faults.Unspelled number fact)) (Err (faults.Memory memory)) is it = tt
  same_answers (Err (faults.Memory memory)) (Ok again) is it = tt
  same_answers (Err (faults.Memory memory)) (Err (faults.Format fault)) is it = done.back.no_fault fault it
  same_answers (Err (faults.Memory memory)) (Err (faults.Refused number why)) is it = never_refused b done.plays output number why done.back it
  same_answers (Err (faults.Memory memory)) (Err (faults.Unspelled number fact)) is it = tt
  same_answers (Err (faults.Memory memory)) (Err (faults.Memory other)) is it = tt
