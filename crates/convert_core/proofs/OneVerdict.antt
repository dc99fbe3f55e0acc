-- Hands have only one list of verdicts: their plays if all are legal, and otherwise the plays
-- before the first refused hand, and its refusal.
use Rattle.std.proofs.Common.{◌≡◌, ℕ, All, List, [], ◌∷◌, ◌++◌, map, refl, sym, subst, ap, ap₂, ◌∙◌}
use Rattle.std.proofs.lemmas.List.Elements.{All-cons, All-head, All-nil, All-tail}
use Rattle.hand_canon.specs.LegalPlay.{IsLegalPlay}
use Rattle.hand_canon.specs.Plays.{hands_of}
use Rattle.hand_canon.specs.declared.record.Record.{Record}
use Rattle.hand_canon.specs.declared.trace.Play.{Play}
use Rattle.convert_core.proofs.OneOutcome.{itself, not_judged, one_refusal, same_plays}
use Rattle.convert_core.proofs.Taken.{legal_hands}
use Rattle.convert_core.specs.Judged.{ArePlaysOf, IsFirstRefused, IsRefusedFor}
use Rattle.convert_core.specs.Verdicts.{AreVerdictsOn, IsFirstNotLegal, IsRight, Legal, Refused, Verdict, hand_in}
use Rattle.convert_core.specs.declared.refusal.Refusal.{Refusal}

-- the plays of one hand are equal
one_play : (play other : Play) → play.hand ≡ other.hand → IsLegalPlay play → IsLegalPlay other → play ≡ other
one_play play other same is it =
    let plays : play ∷ [] ≡ other ∷ [] =
    same_plays (other.hand ∷ []) (play ∷ []) (other ∷ [])
    (record { same = ap (λ (hand : Record). hand ∷ []) same; judged = All-cons IsLegalPlay play [] is (All-nil IsLegalPlay) })
    (record { same = refl; judged = All-cons IsLegalPlay other [] it (All-nil IsLegalPlay) }) in
    cc (plays)

-- a hand with a play is not refused
play_or_refused : (play : Play) (hand : Record) (why : Refusal) → play.hand ≡ hand → IsLegalPlay play → IsRefusedFor hand why → ⊥
play_or_refused play hand why same is refused =
    not_judged play.hand play why (itself play.hand) (subst (λ (h : Record). IsRefusedFor h why) (sym same) refused) is

-- hands that have plays have these as verdicts
pub all_legal : (plays : List Play) (verdicts : List Verdict) → All IsLegalPlay plays → All IsRight verdicts
    → hands_of plays ≡ map hand_in verdicts → verdicts ≡ map Legal plays
all_legal [] [] judged right same = refl
all_legal [] (verdict ∷ verdicts) judged right same = absurd (cc (same))
all_legal (play ∷ plays) [] judged right same = absurd (cc (same))
all_legal (play ∷ plays) (Legal other ∷ verdicts) judged right same =
    let hand : play.hand ≡ other.hand = cc (same) in
    let rest : hands_of plays ≡ map hand_in verdicts = cc (same) in
    let one = one_play play other hand (All-head IsLegalPlay play plays judged) (All-head IsRight (Legal other) verdicts right) in
    ap₂ (λ (p : Play) (vs : List Verdict). Legal p ∷ vs) (sym one)
    (all_legal plays verdicts (All-tail IsLegalPlay play plays judged) (All-tail IsRight (Legal other) verdicts right) rest)
all_legal (play ∷ plays) (Refused hand why ∷ verdicts) judged right same =
    let here : play.hand ≡ hand = cc (same) in
    absurd (play_or_refused play hand why here (All-head IsLegalPlay play plays judged) (All-head IsRight (Refused hand why) verdicts right))

-- and conversely
judged_from : (plays : List Play) → All IsRight (map Legal plays) → All IsLegalPlay plays
judged_from [] right = All-nil IsLegalPlay
judged_from (play ∷ plays) right =
    All-cons IsLegalPlay play plays (All-head IsRight (Legal play) (map Legal plays) right)
    (judged_from plays (All-tail IsRight (Legal play) (map Legal plays) right))

pub legal_plays_are : (records : List Record) (verdicts : List Verdict) (plays : List Play) → AreVerdictsOn records verdicts
    → verdicts ≡ map Legal plays → ArePlaysOf records plays
legal_plays_are records verdicts plays are legal =
    record {
      same = sym (legal_hands plays) ∙ ap (λ (vs : List Verdict). map hand_in vs) (sym legal) ∙ are.same;
      judged = judged_from plays (subst (λ (vs : List Verdict). All IsRight vs) legal are.right);
    }

-- hands after plays, the first of them refused, have these as verdicts
record StandsBehind (before : List Play) (hand : Record) (why : Refusal) (verdicts : List Verdict) : Type 0 where
  behind : List Verdict
  stands : map Legal before ++ Refused hand why ∷ behind ≡ verdicts

split : (before : List Play) (hand : Record) (left : List Record) (why : Refusal) (verdicts : List Verdict)
    → All IsLegalPlay before → IsRefusedFor hand why → All IsRight verdicts
    → hands_of before ++ hand ∷ left ≡ map hand_in verdicts → StandsBehind before hand why verdicts
split [] hand left why [] judged refused right same = absurd (cc (same))
split [] hand left why (Legal play ∷ verdicts) judged refused right same =
    let here : play.hand ≡ hand = cc (same) in
    absurd (play_or_refused play hand why here (All-head IsRight (Legal play) verdicts right) refused)
split [] hand left why (Refused other reason ∷ verdicts) judged refused right same =
    let here : hand ≡ other = cc (same) in
    let one : why ≡ reason =
    one_refusal hand hand why reason (itself hand) refused
    (subst (λ (h : Record). IsRefusedFor h reason) (sym here) (All-head IsRight (Refused other reason) verdicts right)) in
    record { behind = verdicts; stands = ap₂ (λ (h : Record) (w : Refusal). Refused h w ∷ verdicts) here one }
split (play ∷ before) hand left why [] judged refused right same = absurd (cc (same))
split (play ∷ before) hand left why (Legal other ∷ verdicts) judged refused right same =
    let here : play.hand ≡ other.hand = cc (same) in
    let rest : hands_of before ++ hand ∷ left ≡ map hand_in verdicts = cc (same) in
    let one = one_play play other here (All-head IsLegalPlay play before judged) (All-head IsRight (Legal other) verdicts right) in
    let more = split before hand left why verdicts (All-tail IsLegalPlay play before judged) refused (All-tail IsRight (Legal other) verdicts right) rest in
    record {
      behind = more.behind;
      stands = ap₂ (λ (p : Play) (vs : List Verdict). Legal p ∷ vs) one more.stands;
    }
split (play ∷ before) hand left why (Refused other reason ∷ verdicts) judged refused right same =
    let here : play.hand ≡ other = cc (same) in
    absurd (play_or_refused play other reason here (All-head IsLegalPlay play before judged) (All-head IsRight (Refused other reason) verdicts right))

pub first_not_legal : (records : List Record) (verdicts : List Verdict) (number : ℕ) (why : Refusal) → AreVerdictsOn records verdicts
    → IsFirstRefused records number why → IsFirstNotLegal verdicts number why
first_not_legal records verdicts number why are first =
    let more = split first.before first.hand first.behind why verdicts first.judged first.refused are.right (first.where_it_stands ∙ sym are.same) in
    record { before = first.before; hand = first.hand; behind = more.behind; stands = more.stands; counted = first.counted }

-- and conversely
front_hands : (before : List Play) (hand : Record) (why : Refusal) (behind : List Verdict)
    → map hand_in (map Legal before ++ Refused hand why ∷ behind) ≡ hands_of before ++ hand ∷ map hand_in behind
front_hands [] hand why behind = refl
front_hands (play ∷ before) hand why behind = ap (λ (hands : List Record). play.hand ∷ hands) (front_hands before hand why behind)

front_judged : (before : List Play) (hand : Record) (why : Refusal) (behind : List Verdict)
    → All IsRight (map Legal before ++ Refused hand why ∷ behind) → All IsLegalPlay before
front_judged [] hand why behind right = All-nil IsLegalPlay
front_judged (play ∷ before) hand why behind right =
    All-cons IsLegalPlay play before (All-head IsRight (Legal play) (map Legal before ++ Refused hand why ∷ behind) right)
    (front_judged before hand why behind (All-tail IsRight (Legal play) (map Legal before ++ Refused hand why ∷ behind) right))

front_refused : (before : List Play) (hand : Record) (why : Refusal) (behind : List Verdict)
    → All IsRight (map Legal before ++ Refused hand why ∷ behind) → IsRefusedFor hand why
front_refused [] hand why behind right = All-head IsRight (Refused hand why) behind right
front_refused (play ∷ before) hand why behind right =
    front_refused before hand why behind (All-tail IsRight (Legal play) (map Legal before ++ Refused hand why ∷ behind) right)

pub refused_first : (records : List Record) (verdicts : List Verdict) (number : ℕ) (why : Refusal) → AreVerdictsOn records verdicts
    → IsFirstNotLegal verdicts number why → IsFirstRefused records number why
refused_first records verdicts number why are first =
    let right = subst (λ (vs : List Verdict). All IsRight vs) (sym first.stands) are.right in
    record {
      before = first.before;
      judged = front_judged first.before first.hand why first.behind right;
      hand = first.hand;
      behind = map hand_in first.behind;
      where_it_stands = sym (front_hands first.before first.hand why first.behind) ∙ ap (λ (vs : List Verdict). map hand_in vs) first.stands ∙ are.same;
      counted = first.counted;
      refused = front_refused first.before first.hand why first.behind right;
    }
