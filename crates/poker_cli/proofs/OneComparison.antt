-- The hands of two files are compared in one way.
use Rattle.std.proofs.Common.{◌≡◌, ℕ, ◌+◌, Bool, if◌then◌else◌, suc, List, [], ◌∷◌, length, Option, None, refl, ap, ap₂, ◌∙◌}
use Rattle.std.specs.Option.{option_map, option_or}
use Rattle.convert_core.specs.FormatLaws.{lawful_of}
use Rattle.convert_core.specs.declared.format.Format.{Format}
use Rattle.convert_core.specs.declared.refusal.Refusal.{Refusal}
use Rattle.convert_core.proofs.LawfulNotations.{AreReadSame, no_fault, read_same}
use Rattle.convert_core.proofs.OneConversion.{all_same}
use Rattle.convert_core.proofs.OneOutcome.{same_refused}
use Rattle.hand_canon.specs.SaidNotes.{SaidNotes}
use Rattle.hand_canon.specs.SameHands.{AllPaired, AreSameHand}
use Rattle.hand_canon.specs.declared.trace.Play.{Play}
use Rattle.hand_canon.specs.declared.trace.Trace.{Trace}
use Rattle.hand_differences.specs.FirstDifference.{PlainDifference, note_difference, play_difference, reported_difference}
use Rattle.poker_cli.specs.AnswerParts.{Answer, to_refusal}
use Rattle.poker_cli.specs.Compare as in_compare
use Rattle.poker_cli.specs.Compare.{DifferentHand, IsComparedWith, compared, compared_by, first_different, in_file}
use Rattle.poker_cli.proofs.ReadAlike.{AllToldAlike, one_told, refused_or_played}

-- two plays are the same hand, with their notes
abbrev pub Same : ℕ → Play → Play → Type 0
Same = AreSameHand (λ notes. notes)

-- ---- the first hand that differs

-- the same hands have the same difference
same_difference : (notes : Bool) (place : ℕ) (p q o t : Play) → Same place p q → Same place o t
    → reported_difference notes place p o ≡ reported_difference notes place q t
unfolding reported_difference
same_difference notes place p q o t same too =
    ap₂ option_or
    (ap₂ (λ (a b : Trace). play_difference (record p { trace = a }) (record o { trace = b })) same.trace too.trace)
    (ap₂ (λ (a b : SaidNotes). if notes then note_difference a b else None) same.notes too.notes)

same_different : (notes : Bool) (place : ℕ) (ps qs os ts : List Play) → AllPaired Same place ps qs → AllPaired Same place os ts
    → first_different notes place ps os ≡ first_different notes place qs ts
unfolding first_different AllPaired
same_different notes place [] [] os ts same too = refl
same_different notes place [] (q ∷ qs) os ts same too = absurd same
same_different notes place (p ∷ ps) [] os ts same too = absurd same
same_different notes place (p ∷ ps) (q ∷ qs) [] [] same too = refl
same_different notes place (p ∷ ps) (q ∷ qs) [] (t ∷ ts) same too = absurd too
same_different notes place (p ∷ ps) (q ∷ qs) (o ∷ os) [] same too = absurd too
same_different notes place (p ∷ ps) (q ∷ qs) (o ∷ os) (t ∷ ts) same too =
    ap₂ (λ (found : Option PlainDifference) (rest : Option DifferentHand).
    option_or (option_map (λ difference. record { number = place + 1; difference = difference }) found) rest)
    (same_difference notes place p q o t same.0 too.0) (same_different notes (place + 1) ps qs os ts same.1 too.1)

pub paired_count : (P : ℕ → Play → Play → Type 0) (place : ℕ) (ps qs : List Play) → AllPaired P place ps qs → length ps ≡ length qs
unfolding AllPaired
paired_count P place [] [] all = refl
paired_count P place [] (q ∷ qs) all = absurd all
paired_count P place (p ∷ ps) [] all = absurd all
paired_count P place (p ∷ ps) (q ∷ qs) all = ap suc (paired_count P (place + 1) ps qs all.1)

pub same_compared : (notes : Bool) (ps qs os ts : List Play) → AllPaired Same 0 ps qs → AllPaired Same 0 os ts
    → compared notes ps os ≡ compared notes qs ts
same_compared notes ps qs os ts same too =
    ap (λ (found : Option DifferentHand). compared_by found (length ps) (length os)) (same_different notes 0 ps qs os ts same too)
    ∙ ap₂ (compared_by (first_different notes 0 qs ts)) (paired_count Same 0 ps qs same) (paired_count Same 0 os ts too)

-- ---- one answer

pub one_compared : (other : Format) (notes : Bool) (file : List ℕ) (ps qs : List Play) (answer too : Answer) → AreReadSame ps qs
    → IsComparedWith other notes file ps answer → IsComparedWith other notes file qs too → answer ≡ too
unfolding AllToldAlike
one_compared other notes file ps qs _ _ same (in_compare.OtherUnread fault have answer shown) (in_compare.OtherUnread found has too tells) =
    ap in_file (one_told other file fault found answer too have has shown tells)
one_compared other notes file ps qs _ _ same (in_compare.OtherUnread fault have answer shown) (in_compare.OtherRefused number why first) =
    absurd (no_fault (lawful_of other) file first.records fault first.say have)
one_compared other notes file ps qs _ _ same (in_compare.OtherUnread fault have answer shown) (in_compare.OtherPlayed others read) =
    absurd (no_fault (lawful_of other) file read.records fault read.say have)
one_compared other notes file ps qs _ _ same (in_compare.OtherRefused number why first) (in_compare.OtherUnread fault have answer shown) =
    absurd (no_fault (lawful_of other) file first.records fault first.say have)
one_compared other notes file ps qs _ _ same (in_compare.OtherRefused number why first) (in_compare.OtherRefused count reason next) =
    let both = same_refused first.records next.records number count why reason
    (all_same first.records next.records ((lawful_of other).one_reading file first.records next.records first.say next.say)) first.first next.first in
    ap₂ (λ (n : ℕ) (w : Refusal). in_file (to_refusal n w)) both.0 both.1
one_compared other notes file ps qs _ _ same (in_compare.OtherRefused number why first) (in_compare.OtherPlayed others read) =
    absurd (refused_or_played first.records read.records number why others ((lawful_of other).one_reading file first.records read.records first.say read.say) first.first read.are)
one_compared other notes file ps qs _ _ same (in_compare.OtherPlayed others read) (in_compare.OtherUnread fault have answer shown) =
    absurd (no_fault (lawful_of other) file read.records fault read.say have)
one_compared other notes file ps qs _ _ same (in_compare.OtherPlayed others read) (in_compare.OtherRefused number why first) =
    absurd (refused_or_played first.records read.records number why others ((lawful_of other).one_reading file first.records read.records first.say read.say) first.first read.are)
one_compared other notes file ps qs _ _ same (in_compare.OtherPlayed others read) (in_compare.OtherPlayed too reads) =
    same_compared notes ps qs others too same.hands (read_same (lawful_of other) file others too read reads)
