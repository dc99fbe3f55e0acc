-- The verdicts on hands count as one, and so does what is printed for them.
use Rattle.std.proofs.Common.{◌≡◌, ℕ, ◌+◌, All, List, [], ◌∷◌, ◌++◌, length, map, slice_get, refl, sym, subst, ap, ap₂, ◌∙◌, suc}
use Rattle.std.proofs.lemmas.List.Elements.{All-head, All-tail}
use Rattle.convert_core.proofs.OneOutcome.{AllTheSame, not_judged, one_refusal, turned}
use Rattle.convert_core.specs.Verdicts.{AreVerdictsOn, IsRight, Legal, Refused, Verdict, hand_in, legal_plays}
use Rattle.hand_canon.specs.declared.record.Record.{Record}
use Rattle.convert_core.specs.declared.refusal.Refusal.{Refusal}
use Rattle.poker_cli.specs.Judge.{each_verdict, verdict_line, verdicts_end, verdicts_said}

-- verdicts on hands that say the same are printed the same, with the same number of legal hands
record ArePrintedAlike (begun : List ℕ) (place : ℕ) (verdicts others : List Verdict) : Type 0 where
  lines : each_verdict begun place verdicts ≡ each_verdict begun place others
  legal : length (legal_plays verdicts) ≡ length (legal_plays others)
  count : length verdicts ≡ length others

printed_alike : (begun : List ℕ) (place : ℕ) (verdicts others : List Verdict) → All IsRight verdicts → All IsRight others
    → AllTheSame (map hand_in verdicts) (map hand_in others) → ArePrintedAlike begun place verdicts others
unfolding AllTheSame each_verdict legal_plays
printed_alike begun place [] [] right too same = record { lines = refl; legal = refl; count = refl }
printed_alike begun place [] (other ∷ others) right too same = absurd same
printed_alike begun place (verdict ∷ verdicts) [] right too same = absurd same
printed_alike begun place (Legal play ∷ verdicts) (Legal other ∷ others) right too same =
    let rest = printed_alike begun (place + 1) verdicts others (All-tail IsRight (Legal play) verdicts right) (All-tail IsRight (Legal other) others too) same.1 in
    record { lines = ap (λ (text : List ℕ). verdict_line (place + 1) (slice_get begun place) (Legal play) ++ text) rest.lines; legal = ap suc rest.legal; count = ap suc rest.count }
printed_alike begun place (Legal play ∷ verdicts) (Refused hand why ∷ others) right too same =
    absurd (not_judged hand play why (turned play.hand hand same.0) (All-head IsRight (Refused hand why) others too) (All-head IsRight (Legal play) verdicts right))
printed_alike begun place (Refused hand why ∷ verdicts) (Legal play ∷ others) right too same =
    absurd (not_judged hand play why same.0 (All-head IsRight (Refused hand why) verdicts right) (All-head IsRight (Legal play) others too))
printed_alike begun place (Refused hand why ∷ verdicts) (Refused other reason ∷ others) right too same =
    let rest = printed_alike begun (place + 1) verdicts others (All-tail IsRight (Refused hand why) verdicts right) (All-tail IsRight (Refused other reason) others too) same.1 in
    let one = one_refusal hand other why reason same.0 (All-head IsRight (Refused hand why) verdicts right) (All-head IsRight (Refused other reason) others too) in
    record {
      lines = ap₂ (λ (w : Refusal) (text : List ℕ). verdict_line (place + 1) (slice_get begun place) (Refused hand w) ++ text) one rest.lines;
      legal = rest.legal;
      count = ap suc rest.count;
    }

pub same_judged : (begun : List ℕ) (records others : List Record) (verdicts too : List Verdict) → AllTheSame records others
    → AreVerdictsOn records verdicts → AreVerdictsOn others too → verdicts_said begun verdicts ≡ verdicts_said begun too
same_judged begun records others verdicts too same are is =
    let alike = printed_alike begun 0 verdicts too are.right is.right
    (subst (λ (hands : List Record). AllTheSame hands (map hand_in too)) (sym are.same) (subst (AllTheSame records) (sym is.same) same)) in
    ap₂ (λ (lines : List ℕ) (legal : ℕ). lines ++ verdicts_end legal (length verdicts)) alike.lines alike.legal
    ∙ ap (λ (count : ℕ). each_verdict begun 0 too ++ verdicts_end (length (legal_plays too)) count) alike.count
