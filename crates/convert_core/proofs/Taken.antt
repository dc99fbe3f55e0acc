-- One more verdict is visited.
use Rattle.std.proofs.Common.{◌≡◌, Bool, true, false, ℕ, ◌+◌, ◌≤◌, ◌<◌, List, [], ◌∷◌, ◌++◌, All, length, map, append_assoc, append-nil, length-append, slice_index_or, refl, sym, ap, subst, ◌∙◌, arith}
use Rattle.std.proofs.lemmas.List.{length-map, map-append}
use Rattle.std.proofs.lemmas.List.Elements.{All-cons, All-head, All-nil, All-push, All-same, All-tail}
use Rattle.hand_canon.specs.LegalPlay.{IsLegalPlay}
use Rattle.hand_canon.specs.Sound.{IsSound}
use Rattle.hand_canon.specs.SoundRecord.{IsSoundRecord}
use Rattle.hand_canon.specs.Plays.{hands_of}
use Rattle.hand_canon.specs.declared.record.Record.{Record}
use Rattle.hand_canon.specs.declared.trace.Play.{Play}
use Rattle.convert_core.proofs.JudgedPlays.{first_refused, plays_sound}
use Rattle.convert_core.specs.Judged.{ArePlaysOf, IsFaultAt, IsPlaysFaultOf, IsPlaysOutOfMemory, IsRefusedFor}
use Rattle.convert_core.specs.declared.refusal.PlaysFault.{PlaysFault}
use Rattle.convert_core.specs.declared.refusal.PlaysFault.TheVariants as plays_faults
use Rattle.convert_core.specs.declared.refusal.Refusal.{Refusal}
use Rattle.convert_core.specs.Taking.{AreTaken}
use Rattle.convert_core.specs.Verdicts.{AreVerdictsOn, IsRight, Legal, Refused, Verdict, hand_in, legal_plays}

-- the play of one more legal hand comes after the others
pub legal_more : (verdicts : List Verdict) (play : Play) → legal_plays (verdicts ++ Legal play ∷ []) ≡ legal_plays verdicts ++ play ∷ []
unfolding legal_plays
legal_more [] play = refl
legal_more (Legal p ∷ rest) play = ap (λ (ps : List Play). p ∷ ps) (legal_more rest play)
legal_more (Refused hand why ∷ rest) play = legal_more rest play

-- one more refused hand has no play
pub legal_same : (verdicts : List Verdict) (hand : Record) (why : Refusal) → legal_plays (verdicts ++ Refused hand why ∷ []) ≡ legal_plays verdicts
unfolding legal_plays
legal_same [] hand why = refl
legal_same (Legal p ∷ rest) hand why = ap (λ (ps : List Play). p ∷ ps) (legal_same rest hand why)
legal_same (Refused h w ∷ rest) hand why = legal_same rest hand why

-- the plays of legal hands are judged
plays_judged : (verdicts : List Verdict) → All IsRight verdicts → All IsLegalPlay (legal_plays verdicts)
unfolding legal_plays
plays_judged [] right = All-nil IsLegalPlay
plays_judged (Legal play ∷ rest) right =
    All-cons IsLegalPlay play (legal_plays rest) (All-head IsRight (Legal play) rest right) (plays_judged rest (All-tail IsRight (Legal play) rest right))
plays_judged (Refused hand why ∷ rest) right = plays_judged rest (All-tail IsRight (Refused hand why) rest right)

-- verdicts on legal hands are on the records of their plays
pub legal_hands : (plays : List Play) → map hand_in (map Legal plays) ≡ hands_of plays
legal_hands [] = refl
legal_hands (play ∷ plays) = ap (λ (hs : List Record). play.hand ∷ hs) (legal_hands plays)

all_hands : (verdicts : List Verdict) → verdicts ≡ map Legal (legal_plays verdicts) → hands_of (legal_plays verdicts) ≡ map hand_in verdicts
all_hands verdicts legal = sym (legal_hands (legal_plays verdicts)) ∙ ap (λ (vs : List Verdict). map hand_in vs) (sym legal)

-- there are as many of them
pub all_counted : (verdicts : List Verdict) → verdicts ≡ map Legal (legal_plays verdicts) → length verdicts ≡ length (legal_plays verdicts)
all_counted verdicts legal = ap (λ (vs : List Verdict). length vs) legal ∙ length-map (legal_plays verdicts) Legal

-- and one more legal hand
all_more : (verdicts : List Verdict) (play : Play) → verdicts ≡ map Legal (legal_plays verdicts)
    → verdicts ++ Legal play ∷ [] ≡ map Legal (legal_plays (verdicts ++ Legal play ∷ []))
all_more verdicts play legal =
    ap (λ (vs : List Verdict). vs ++ Legal play ∷ []) legal
    ∙ sym (map-append Legal (legal_plays verdicts) (play ∷ []))
    ∙ ap (λ (ps : List Play). map Legal ps) (sym (legal_more verdicts play))

-- one more verdict
one_more : (hands : List Record) (verdicts : List Verdict) (verdict : Verdict) → AreVerdictsOn hands verdicts → IsRight verdict
    → AreVerdictsOn (hands ++ hand_in verdict ∷ []) (verdicts ++ verdict ∷ [])
one_more hands verdicts verdict are right =
    record {
      same = map-append hand_in verdicts (verdict ∷ []) ∙ ap (λ (hs : List Record). hs ++ hand_in verdict ∷ []) are.same;
      right = All-push IsRight verdicts verdict are.right right;
    }

-- the last of plays
last_at : (before : List Play) (play other : Play) → slice_index_or (before ++ play ∷ []) (length before) other ≡ play
last_at [] play other = refl
last_at (p ∷ before) play other = last_at before play other

pub last_is : (before after : List Play) (play found : Play) (at : ℕ) → after ≡ before ++ play ∷ [] → at ≡ length before
    → found ≡ slice_index_or after at found → found ≡ play
last_is before after play found at behind here is =
    is ∙ ap (λ (ps : List Play). slice_index_or ps at found) behind
    ∙ ap (λ (n : ℕ). slice_index_or (before ++ play ∷ []) n found) here
    ∙ last_at before play found

-- a legal hand was visited
pub now_taken : (continues keeps : Bool) (Took Takes : List Verdict → Type 0) (hands : List Record) (place : ℕ) (old new : List Play) (play : Play) (hand : Record)
    → (before : AreTaken continues keeps Took hands place old) → play.hand ≡ hand → IsLegalPlay play
    → (keeps ≡ true → new ≡ old ++ play ∷ []) → (keeps ≡ false → length new ≤ 1) → Takes (before.verdicts ++ Legal play ∷ [])
    → AreTaken continues keeps Takes (hands ++ hand ∷ []) (place + 1) new
now_taken continues keeps Took Takes hands place old new play hand before same judged kept few takes =
    let verdicts = before.verdicts in
    record {
      verdicts = verdicts ++ Legal play ∷ [];
      are = subst (λ (h : Record). AreVerdictsOn (hands ++ h ∷ []) (verdicts ++ Legal play ∷ [])) same (one_more hands verdicts (Legal play) before.are judged);
      took = takes;
      counted = omega (arith, before.counted, length-append verdicts (Legal play ∷ []));
      all_legal = λ stops. all_more verdicts play (before.all_legal stops);
      plays = λ keep. kept keep ∙ ap (λ (ps : List Play). ps ++ play ∷ []) (before.plays keep) ∙ sym (legal_more verdicts play);
      dropped = few;
    }

-- a refused hand was visited with its first fault
pub now_passed : (continues keeps : Bool) (Took Takes : List Verdict → Type 0) (hands : List Record) (place : ℕ) (kept : List Play) (hand : Record) (why : Refusal)
    → (before : AreTaken continues keeps Took hands place kept) → continues ≡ true → IsRefusedFor hand why
    → Takes (before.verdicts ++ Refused hand why ∷ [])
    → AreTaken continues keeps Takes (hands ++ hand ∷ []) (place + 1) kept
now_passed continues keeps Took Takes hands place kept hand why before on refused takes =
    let verdicts = before.verdicts in
    record {
      verdicts = verdicts ++ Refused hand why ∷ [];
      are = one_more hands verdicts (Refused hand why) before.are refused;
      took = takes;
      counted = omega (arith, before.counted, length-append verdicts (Refused hand why ∷ []));
      all_legal = λ stops. absurd (cc (on, stops));
      plays = λ keep. before.plays keep ∙ sym (legal_same verdicts hand why);
      dropped = before.dropped;
    }

-- what was visited of the records so far, and the records that are left
pub record AreOnTheWay (continues keeps : Bool) (Took : List Verdict → Type 0) (records left : List Record) (place : ℕ) (kept : List Play) : Type 0 where
  pub hands : List Record
  pub taken : AreTaken continues keeps Took hands place kept
  pub stands : hands ++ left ≡ records

-- before the first hand
pub none_taken : (continues keeps : Bool) (Took : List Verdict → Type 0) (records : List Record) (kept : List Play) → Took [] → kept ≡ []
    → AreOnTheWay continues keeps Took records records 0 kept
unfolding legal_plays
none_taken continues keeps Took records kept took empty =
    record {
      hands = [];
      taken = record {
        verdicts = [];
        are = record { same = refl; right = All-nil IsRight };
        took = took;
        counted = refl;
        all_legal = λ _. refl;
        plays = λ _. empty;
        dropped = λ _. omega (arith, ap (λ (ps : List Play). length ps) empty);
      };
      stands = refl;
    }

-- the next of these records was visited
pub one_on : (continues keeps : Bool) (Took Takes : List Verdict → Type 0) (records left : List Record) (hand : Record) (place : ℕ) (old new : List Play)
    → (way : AreOnTheWay continues keeps Took records (hand ∷ left) place old)
    → ((hands : List Record) → AreTaken continues keeps Took hands place old → AreTaken continues keeps Takes (hands ++ hand ∷ []) (place + 1) new)
    → AreOnTheWay continues keeps Takes records left (place + 1) new
one_on continues keeps Took Takes records left hand place old new way more =
    record {
      hands = way.hands ++ hand ∷ [];
      taken = more way.hands way.taken;
      stands = append_assoc way.hands (hand ∷ []) left ∙ way.stands;
    }

-- and there are at most as many as a file may have
pub has_room : (continues keeps : Bool) (Took : List Verdict → Type 0) (records left : List Record) (hand : Record) (place most : ℕ) (kept : List Play)
    → AreOnTheWay continues keeps Took records (hand ∷ left) place kept → length records ≤ most → place < most
has_room continues keeps Took records left hand place most kept way few =
    let taken = way.taken in
    omega (arith, few, ap length way.stands, length-append way.hands (hand ∷ left), taken.counted, ap length taken.are.same, length-map taken.verdicts hand_in)

-- a hand that ends the loop is the first refused one
pub refused_on : (continues keeps : Bool) (Took : List Verdict → Type 0) (records left : List Record) (hand : Record) (place : ℕ) (kept : List Play) (fault : PlaysFault)
    → AreOnTheWay continues keeps Took records (hand ∷ left) place kept → (continues ≡ true → IsPlaysOutOfMemory fault)
    → IsFaultAt hand (place + 1) fault → IsPlaysFaultOf records fault
refused_on true keeps Took records left hand place kept (plays_faults.Refused number why) way memory refused = absurd (memory refl)
refused_on continues keeps Took records left hand place kept (plays_faults.Memory none_left) way memory refused = tt
refused_on false keeps Took records left hand place kept (plays_faults.Refused number why) way memory refused =
    let taken = way.taken in
    let verdicts = taken.verdicts in
    let legal : verdicts ≡ map Legal (legal_plays verdicts) = taken.all_legal refl in
    first_refused (legal_plays verdicts) hand left records (place + 1) (plays_faults.Refused number why) (plays_judged verdicts taken.are.right)
    (ap (λ (hs : List Record). hs ++ hand ∷ left) (all_hands verdicts legal ∙ taken.are.same) ∙ way.stands)
    (ap (λ (n : ℕ). n + 1) (taken.counted ∙ all_counted verdicts legal)) refused

-- at the end all records were visited
pub at_end : (continues keeps : Bool) (Took : List Verdict → Type 0) (records left : List Record) (place : ℕ) (kept : List Play)
    → AreOnTheWay continues keeps Took records left place kept → left ≡ [] → AreTaken continues keeps Took records (length records) kept
at_end continues keeps Took records left place kept way none =
    let taken = way.taken in
    let all : way.hands ≡ records = sym (append-nil way.hands) ∙ ap (λ (l : List Record). way.hands ++ l) (sym none) ∙ way.stands in
    record {
      verdicts = taken.verdicts;
      are = subst (λ (hands : List Record). AreVerdictsOn hands taken.verdicts) all taken.are;
      took = taken.took;
      counted = sym (ap (λ (hs : List Record). length hs) (taken.are.same ∙ all)) ∙ length-map taken.verdicts hand_in;
      all_legal = taken.all_legal;
      plays = taken.plays;
      dropped = taken.dropped;
    }

-- if all hands are legal, they have plays
pub plays_are : (keeps : Bool) (Took : List Verdict → Type 0) (records : List Record) (count : ℕ) (kept : List Play)
    → (taken : AreTaken false keeps Took records count kept) → ArePlaysOf records (legal_plays taken.verdicts)
plays_are keeps Took records count kept taken =
    record {
      same = all_hands taken.verdicts (taken.all_legal refl) ∙ taken.are.same;
      judged = plays_judged taken.verdicts taken.are.right;
    }

-- these are the ones that are kept
pub kept_are : (Took : List Verdict → Type 0) (records : List Record) (count : ℕ) (kept : List Play)
    → AreTaken false true Took records count kept → ArePlaysOf records kept
kept_are Took records count kept taken =
    subst (λ (plays : List Play). ArePlaysOf records plays) (sym (taken.plays refl)) (plays_are true Took records count kept taken)

-- and those of sound records are sound
pub kept_sound : (records : List Record) (kept : List Play) → All IsSoundRecord records → ArePlaysOf records kept → All IsSound kept
kept_sound records kept sound are = plays_sound kept (All-same IsSoundRecord (hands_of kept) records are.same sound) are.judged
