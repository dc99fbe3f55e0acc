-- The line of the verdict on one more hand.
use Rattle.std.proofs.Common.{◌≡◌, true, false, ℕ, ◌+◌, ◌≤◌, List, [], ◌∷◌, ◌++◌, length, slice_get, append_assoc, append-nil, length-append, refl, sym, ap, ◌∙◌, arith}
use Rattle.hand_canon.specs.declared.record.Record.{Record}
use Rattle.hand_canon.specs.declared.trace.Play.{Play}
use Rattle.convert_core.specs.declared.refusal.Refusal.{Refusal}
use Rattle.convert_core.proofs.Taken.{legal_more, legal_same}
use Rattle.convert_core.specs.Taking.{AreTaken}
use Rattle.convert_core.specs.Verdicts.{Legal, Refused, Verdict, legal_plays}
use Rattle.poker_cli.specs.Judge.{ArePrinted, IsVerdictsText, each_verdict, verdict_line, verdicts_end}

-- the line of the hand at a place
abbrev line_at : (lines : List ℕ) → ℕ → Verdict → List ℕ
line_at lines place verdict = verdict_line (place + 1) (slice_get lines place) verdict

-- the line of one more hand comes after the others
each_more : (lines : List ℕ) (place : ℕ) (verdicts : List Verdict) (verdict : Verdict)
    → each_verdict lines place (verdicts ++ verdict ∷ []) ≡ each_verdict lines place verdicts ++ line_at lines (place + length verdicts) verdict
unfolding each_verdict
each_more lines place [] verdict =
    let here : place ≡ place + 0 = omega arith in
    append-nil (line_at lines place verdict) ∙ ap (λ (n : ℕ). line_at lines n verdict) here
each_more lines place (first ∷ rest) verdict =
    let here : place + 1 + length rest ≡ place + length (first ∷ rest) = omega arith in
    ap (λ (xs : List ℕ). line_at lines place first ++ xs)
    (each_more lines (place + 1) rest verdict ∙ ap (λ (n : ℕ). each_verdict lines (place + 1) rest ++ line_at lines n verdict) here)
    ∙ sym (append_assoc (line_at lines place first) (each_verdict lines (place + 1) rest) (line_at lines (place + length (first ∷ rest)) verdict))

-- after the lines of the hands before
one_line : (lines known text new : List ℕ) (place : ℕ) (before : List Verdict) (verdict : Verdict)
    → text ≡ each_verdict lines 0 before → known ≡ lines → length before ≡ place → new ≡ text ++ line_at known place verdict
    → new ≡ each_verdict lines 0 (before ++ verdict ∷ [])
one_line lines known text new place before verdict said same counted more =
    let here : place ≡ 0 + length before = omega (arith, counted) in
    more ∙ ap (λ (ls : List ℕ). text ++ line_at ls place verdict) same
    ∙ ap (λ (xs : List ℕ). xs ++ line_at lines place verdict) said
    ∙ ap (λ (n : ℕ). each_verdict lines 0 before ++ line_at lines n verdict) here
    ∙ sym (each_more lines 0 before verdict)

-- one more legal hand
pub now_legal : (lines known text new : List ℕ) (legal after place : ℕ) (before : List Verdict) (play : Play)
    → ArePrinted lines known text legal before → length before ≡ place → new ≡ text ++ line_at known place (Legal play) → after ≡ legal + 1
    → ArePrinted lines known new after (before ++ Legal play ∷ [])
now_legal lines known text new legal after place before play printed counted more one =
    record {
      same = printed.same;
      said = one_line lines known text new place before (Legal play) printed.said printed.same counted more;
      counted = omega (arith, one, printed.counted, ap (λ (ps : List Play). length ps) (legal_more before play), length-append (legal_plays before) (play ∷ []));
    }

-- one more refused hand
pub now_refused : (lines known text new : List ℕ) (legal after place : ℕ) (before : List Verdict) (hand : Record) (why : Refusal)
    → ArePrinted lines known text legal before → length before ≡ place → new ≡ text ++ line_at known place (Refused hand why) → after ≡ legal
    → ArePrinted lines known new after (before ++ Refused hand why ∷ [])
now_refused lines known text new legal after place before hand why printed counted more same =
    record {
      same = printed.same;
      said = one_line lines known text new place before (Refused hand why) printed.said printed.same counted more;
      counted = same ∙ printed.counted ∙ sym (ap (λ (ps : List Play). length ps) (legal_same before hand why));
    }

-- there are no more legal hands than hands
pub legal_few : (verdicts : List Verdict) → length (legal_plays verdicts) ≤ length verdicts
unfolding legal_plays
legal_few [] = omega arith
legal_few (Legal play ∷ rest) = let few = legal_few rest in omega (arith, few)
legal_few (Refused hand why ∷ rest) = let few = legal_few rest in omega (arith, few)

-- before the first hand
pub none_printed : (lines text : List ℕ) → text ≡ [] → ArePrinted lines lines text 0 []
unfolding each_verdict legal_plays
none_printed lines text empty = record { said = empty; counted = refl; same = refl }

-- the last line after those of all hands
pub all_printed : (lines known : List ℕ) (records : List Record) (count hands legal : ℕ) (kept : List Play) (text new : List ℕ)
    → AreTaken true false (λ verdicts. ArePrinted lines known text legal verdicts) records count kept → hands ≡ count
    → new ≡ text ++ verdicts_end legal hands → IsVerdictsText lines records new
all_printed lines known records count hands legal kept text new taken all more =
    let verdicts = taken.verdicts in
    record {
      verdicts = verdicts;
      are = taken.are;
      said = more ∙ ap (λ (xs : List ℕ). xs ++ verdicts_end legal hands) taken.took.said
          ∙ ap (λ (n : ℕ). each_verdict lines 0 verdicts ++ verdicts_end n hands) taken.took.counted
          ∙ ap (λ (n : ℕ). each_verdict lines 0 verdicts ++ verdicts_end (length (legal_plays verdicts)) n) (all ∙ taken.counted);
    }
