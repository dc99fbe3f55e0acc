-- What is written after one more hand.
use Rattle.std.proofs.Common.{◌≡◌, true, false, ℕ, ◌+◌, ◌≤◌, All, List, [], ◌∷◌, ◌++◌, Option, Some, None, Result, Ok, Err, length, sum_by, refl, sym, ap, subst, ◌∙◌, arith}
use Rattle.std.specs.Option.{is_some}
use Rattle.hand_canon.specs.WriteRefusals.{first_refusal, refusal_from, refused_at}
use Rattle.std.proofs.lemmas.List.{length-map}
use Rattle.first_fault.specs.declared.limits.TheConstants.{MOST_FILE_MOVES, MOST_HANDS}
use Rattle.hand_canon.specs.Sound.{IsSound}
use Rattle.hand_canon.specs.Moves.{moves_of}
use Rattle.hand_canon.specs.declared.record.Record.{Record}
use Rattle.hand_canon.specs.declared.trace.Play.{Play}
use Rattle.card_set.proofs.Sums.{sum_by-map}
use Rattle.convert_core.specs.Conversion.{IsConversion}
use Rattle.convert_core.specs.Judged.{ArePlaysOf}
use Rattle.convert_core.specs.Records.{AreFew}
use Rattle.convert_core.specs.declared.convert_fault.ConvertFault.{ConvertFault}
use Rattle.convert_core.specs.declared.convert_fault.ConvertFault.TheVariants as faults
use Rattle.convert_core.specs.declared.format_fault.FormatFault.{FormatFault}
use Rattle.hand_canon.specs.declared.writing.Unspelled.{Unspelled}
use Rattle.hand_canon.specs.declared.writing.WriteRefusal.{WriteRefusal}
use Rattle.hand_canon.specs.declared.writing.WriteRefusal.TheVariants as refusals
use Rattle.hand_canon.proofs.Refusals.{none_refused}
use Rattle.convert_core.proofs.Taken.{all_counted, legal_more}
use Rattle.convert_core.specs.Verdicts.{AreLegalUnless, Legal, Verdict, legal_plays}
use Rattle.convert_core.specs.Lines.{IsWritten}
use Rattle.convert_core.specs.Meaning.{Meaning}
use Rattle.hand_canon.specs.declared.writing.Keep.{Keep}

-- if one is refused already, it stays the first
refused_first : (number : ℕ) (fact : Option Unspelled) (behind more : Option WriteRefusal) (refusal : WriteRefusal)
    → refused_at number fact behind ≡ Some refusal → (behind ≡ Some refusal → more ≡ Some refusal) → refused_at number fact more ≡ Some refusal
refused_first number (Some fact) behind more refusal first later = first
refused_first number None behind more refusal first later = later first

stays_first : (unspelled : Play → Option Unspelled) (number : ℕ) (plays : List Play) (play : Play) (refusal : WriteRefusal)
    → refusal_from unspelled number plays ≡ Some refusal → refusal_from unspelled number (plays ++ play ∷ []) ≡ Some refusal
stays_first unspelled number [] play refusal first = absurd (cc (first))
stays_first unspelled number (p ∷ plays) play refusal first =
    refused_first number (unspelled p) (refusal_from unspelled (number + 1) plays) (refusal_from unspelled (number + 1) (plays ++ play ∷ [])) refusal first
    (stays_first unspelled (number + 1) plays play refusal)

stays : (unspelled : Play → Option Unspelled) (plays : List Play) (play : Play) (told : Option WriteRefusal)
    → is_some told ≡ true → first_refusal unspelled plays ≡ told → first_refusal unspelled (plays ++ play ∷ []) ≡ told
stays unspelled plays play None some first = absurd (cc (some))
stays unspelled plays play (Some refusal) some first = stays_first unspelled 1 plays play refusal first

-- no refusal is kept, or one is
pub none_is : (told : Option WriteRefusal) → is_some told ≡ false → told ≡ None
none_is None missing = refl
none_is (Some refusal) missing = absurd (cc (missing))

some_is : (told : Option WriteRefusal) → is_some told ≡ true → told ≡ None → ⊥
some_is None some none = cc (some)
some_is (Some refusal) some none = cc (none)

-- if none is refused, the first refusal is that of the hands after them, if any
last_first : (unspelled : Play → Option Unspelled) (number : ℕ) (plays : List Play) (play : Play)
    → refusal_from unspelled number plays ≡ None
    → refusal_from unspelled number (plays ++ play ∷ []) ≡ refused_at (number + length plays) (unspelled play) None
last_first unspelled number [] play none =
    let here : number ≡ number + 0 = omega arith in
    ap (λ (n : ℕ). refused_at n (unspelled play) None) here
last_first unspelled number (p ∷ plays) play none =
    let parts = none_refused number (unspelled p) (refusal_from unspelled (number + 1) plays) none in
    let here : number + 1 + length plays ≡ number + length (p ∷ plays) = omega arith in
    ap (λ (fact : Option Unspelled). refused_at number fact (refusal_from unspelled (number + 1) (plays ++ play ∷ []))) parts.0
    ∙ last_first unspelled (number + 1) plays play parts.1
    ∙ ap (λ (n : ℕ). refused_at n (unspelled play) None) here

-- a hand after one that is refused
pub behind_refused : (to : Meaning) (keep : Keep) (refusal : Option WriteRefusal) (out : List ℕ) (before : List Verdict) (play : Play)
    → is_some refusal ≡ true → IsWritten to keep refusal out before → IsWritten to keep refusal out (before ++ Legal play ∷ [])
behind_refused to keep refusal out before play some written =
    record {
      lined = written.lined;
      first = ap (λ (ps : List Play). first_refusal (to.unspelled keep) ps) (legal_more before play) ∙ stays (to.unspelled keep) (legal_plays before) play refusal some written.first;
      spell = λ none. absurd (some_is refusal some none);
    }

-- the first one that is refused
pub now_refused : (to : Meaning) (keep : Keep) (refusal : Option WriteRefusal) (out : List ℕ) (before : List Verdict) (play : Play) (place : ℕ) (fact : Unspelled)
    → length before ≡ place → AreLegalUnless false before → refusal ≡ None → to.unspelled keep play ≡ Some fact → IsWritten to keep refusal out before
    → IsWritten to keep (Some (refusals.Unspelled (place + 1) fact)) out (before ++ Legal play ∷ [])
now_refused to keep refusal out before play place fact counted legal none found written =
    let plays = legal_plays before in
    let here : 1 + length plays ≡ place + 1 = omega (arith, counted, all_counted before (legal refl)) in
    record {
      lined = written.lined;
      first = ap (λ (ps : List Play). first_refusal (to.unspelled keep) ps) (legal_more before play)
          ∙ last_first (to.unspelled keep) 1 plays play (written.first ∙ none)
          ∙ ap (λ (f : Option Unspelled). refused_at (1 + length plays) f None) found
          ∙ ap (λ (n : ℕ). Some (refusals.Unspelled n fact)) here;
      spell = λ is. absurd (cc (is));
    }

-- a hand that can be expressed, after others that can
pub now_spelled : (to : Meaning) (keep : Keep) (refusal : Option WriteRefusal) (out new : List ℕ) (before : List Verdict) (play : Play)
    → refusal ≡ None → to.unspelled keep play ≡ None → IsWritten to keep refusal out before → to.Spell (legal_plays before ++ play ∷ []) new
    → IsWritten to keep refusal new (before ++ Legal play ∷ [])
now_spelled to keep refusal out new before play none spelled written spell =
    let plays = legal_plays before in
    record {
      lined = written.lined;
      first = ap (λ (ps : List Play). first_refusal (to.unspelled keep) ps) (legal_more before play)
          ∙ last_first (to.unspelled keep) 1 plays play (written.first ∙ none)
          ∙ ap (λ (f : Option Unspelled). refused_at (1 + length plays) f None) spelled
          ∙ sym none;
      spell = λ _. subst (λ (ps : List Play). to.Spell ps new) (sym (legal_more before play)) spell;
    }

-- before the first hand nothing is written
pub none_written : (to : Meaning) (keep : Keep) (out : List ℕ)
    → to.is_lined ≡ true → to.Spell [] [] → out ≡ [] → IsWritten to keep None out []
unfolding legal_plays
none_written to keep out lined spell empty =
    record { lined = lined; first = refl; spell = λ _. subst (λ (o : List ℕ). to.Spell [] o) (sym empty) spell }

-- there are at most as many as a file may have, and so are their moves
pub few_plays : (records : List Record) (plays : List Play) → ArePlaysOf records plays
    → length records ≤ MOST_HANDS → sum_by moves_of records ≤ MOST_FILE_MOVES → AreFew plays
few_plays records plays are few few_moves =
    record {
      few = omega (arith, few, ap length are.same, length-map plays (λ (p : Play). p.hand));
      few_moves = omega (arith, few_moves, ap (sum_by moves_of) are.same, sum_by-map moves_of (λ (p : Play). p.hand) plays);
    }

-- The result for the records of a file is that for its bytes, if what is written of their plays
-- reads back.
pub of_file : {X : Type 0} (Say : List Record → Type 0) (HaveFault : FormatFault → Type 0) (unspelled : Play → Option Unspelled) (Spell ReadBack : List Play → List ℕ → Type 0) (view : X → List ℕ) (records : List Record) (answer : Result X ConvertFault)
    → Say records
    → ((plays : List Play) (output : List ℕ) → ArePlaysOf records plays → All IsSound plays → first_refusal unspelled plays ≡ None → Spell plays output → ReadBack plays output)
    → IsConversion (λ hands. hands ≡ records) (λ _. ⊥) unspelled Spell (λ plays _. All IsSound plays) view answer
    → IsConversion Say HaveFault unspelled Spell ReadBack view answer
of_file Say HaveFault unspelled Spell ReadBack view records (Ok output) say back is =
    let are : ArePlaysOf records is.plays = rw (sym is.read.say) is.read.are in
    record {
      plays = is.plays;
      read = record { records = records; say = say; are = are };
      spelled = is.spelled;
      spell = is.spell;
      back = back is.plays (view output) are is.back is.spelled is.spell;
    }
of_file Say HaveFault unspelled Spell ReadBack view records (Err (faults.Format fault)) say back is = absurd is
of_file Say HaveFault unspelled Spell ReadBack view records (Err (faults.Refused number why)) say back is =
    record { records = records; say = say; first = rw (sym is.say) is.first }
of_file Say HaveFault unspelled Spell ReadBack view records (Err (faults.Unspelled number fact)) say back is =
    record {
      plays = is.plays;
      read = record { records = records; say = say; are = rw (sym is.read.say) is.read.are };
      first = is.first;
    }
of_file Say HaveFault unspelled Spell ReadBack view records (Err (faults.Memory memory)) say back is = tt
