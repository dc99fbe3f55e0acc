-- Records that say the same of their play have the same plays, or the same refusal.
use Rattle.std.proofs.Common.{◌≡◌, ℕ, suc, ◌+◌, List, [], ◌∷◌, ◌++◌, All, length, refl, sym, subst, ap, ap₂, ◌∙◌}
use Rattle.std.proofs.lemmas.List.Elements.{All-head, All-tail}
use Rattle.std.proofs.lemmas.Option.{same_Some}
use Rattle.chip_ledger.proofs.Same.{seat_same}
use Rattle.play_event.specs.declared.event.Event.{Event}
use Rattle.play_event.specs.declared.setup.Rules.{Rules}
use Rattle.play_event.specs.declared.setup.Setup.{Setup}
use Rattle.play_event.specs.Scripts.{past_at_end}
use Rattle.hand_canon.specs.declared.agreement.FactDiffers.{FactDiffers}
use Rattle.hand_canon.specs.declared.agreement.Which.{Which}
use Rattle.hand_canon.specs.declared.agreement.Which.TheVariants as whiches
use Rattle.hand_canon.specs.declared.record.Record.{Record}
use Rattle.hand_canon.specs.declared.record.Stated.{Stated}
use Rattle.hand_canon.specs.declared.trace.Play.{Play}
use Rattle.hand_canon.specs.declared.trace.Trace.{Trace}
use Rattle.hand_canon.specs.Agreement.{Comparison, difference_said, first_difference, which_said}
use Rattle.hand_canon.specs.LegalHand.{IsLegalHand}
use Rattle.hand_canon.specs.WholeTrace.{IsTraceOf}
use Rattle.trace_laws.proofs.OneTrace.{one_past}
use Rattle.replay_core.specs.declared.fault.ReplayFault.{ReplayFault}
use Rattle.replay_core.specs.declared.fault.ReplayFault.TheVariants as faults
use Rattle.replay_core.specs.Events.{said_by}
use Rattle.replay_core.specs.Faults.{IsFaultOf, IsOutOfMemory}
use Rattle.replay_core.proofs.OneFault.{no_fault, one_fault}
use Rattle.convert_core.specs.declared.refusal.Refusal.{Refusal}
use Rattle.convert_core.specs.declared.refusal.Refusal.TheVariants as refusals
use Rattle.hand_canon.specs.LegalPlay.{IsLegalPlay, IsTraceOfLegal}
use Rattle.convert_core.specs.Judged.{ArePlaysOf, HasDifference, IsFirstRefused, IsRefusedFor, IsReplayFaultOf}
use Rattle.convert_core.specs.SameRecords.{SayTheSame}
use Rattle.hand_canon.specs.Plays.{hands_of}

pub itself : (a : Record) → SayTheSame a a
itself a = record { setup = refl; rules = refl; script = refl; stated = refl }

pub turned : (a b : Record) → SayTheSame a b → SayTheSame b a
turned a b same = record { setup = sym same.setup; rules = sym same.rules; script = sym same.script; stated = sym same.stated }

-- what holds for the play of a record holds for that of another one that says the same
pub moved : (P : Setup → Rules → List Event → Stated → Type 0) (a b : Record) → SayTheSame a b
    → P a.setup a.rules a.script a.stated → P b.setup b.rules b.script b.stated
moved P a b same is =
    subst (P b.setup b.rules b.script) same.stated
    (subst (λ (script : List Event). P b.setup b.rules script a.stated) same.script
    (subst (λ (rules : Rules). P b.setup rules a.script a.stated) same.rules
    (subst (λ (setup : Setup). P setup a.rules a.script a.stated) same.setup is)))

legal_moved : (a b : Record) (trace : Trace) → SayTheSame a b → IsTraceOfLegal a trace → IsTraceOfLegal b trace
legal_moved a b trace same is =
    record {
      legal = moved (λ setup rules script stated. IsLegalHand setup rules (said_by script)) a b same is.legal;
      whole = moved (λ setup rules script stated. IsTraceOf setup (past_at_end setup (said_by script)) trace) a b same is.whole;
    }

fault_moved : (a b : Record) (fault : ReplayFault) → SayTheSame a b
    → IsFaultOf a.setup a.rules a.script fault → IsFaultOf b.setup b.rules b.script fault
fault_moved a b fault same is = moved (λ setup rules script stated. IsFaultOf setup rules script fault) a b same is

-- a legal hand has one trace
pub one_trace : (a b : Record) (trace other : Trace) → SayTheSame a b → IsTraceOfLegal a trace → IsTraceOfLegal b other → trace ≡ other
one_trace a b trace other same is it =
    one_past b.setup (past_at_end b.setup (said_by b.script)) trace other (legal_moved a b trace same is).whole it.whole

which_same : (a b : Which) → which_said a ≡ which_said b → a ≡ b
which_same (whiches.Finish a) (whiches.Finish b) same = ap whiches.Finish (seat_same a b (cc))
which_same (whiches.Finish a) (whiches.Win b) same = absurd (cc)
which_same (whiches.Finish a) whiches.Pots same = absurd (cc)
which_same (whiches.Finish a) (whiches.Value b) same = absurd (cc)
which_same (whiches.Win a) (whiches.Finish b) same = absurd (cc)
which_same (whiches.Win a) (whiches.Win b) same = ap whiches.Win (seat_same a b (cc))
which_same (whiches.Win a) whiches.Pots same = absurd (cc)
which_same (whiches.Win a) (whiches.Value b) same = absurd (cc)
which_same whiches.Pots (whiches.Finish b) same = absurd (cc)
which_same whiches.Pots (whiches.Win b) same = absurd (cc)
which_same whiches.Pots whiches.Pots same = refl
which_same whiches.Pots (whiches.Value b) same = absurd (cc)
which_same (whiches.Value a) (whiches.Finish b) same = absurd (cc)
which_same (whiches.Value a) (whiches.Win b) same = absurd (cc)
which_same (whiches.Value a) whiches.Pots same = absurd (cc)
which_same (whiches.Value a) (whiches.Value b) same = ap whiches.Value (seat_same a b (cc))

differs_same : (a b : FactDiffers) → difference_said a ≡ difference_said b → a ≡ b
differs_same a b same =
    ap (λ (which : Which). record { which = which; stated = a.stated; replayed = a.replayed }) (which_same a.which b.which (ap (λ (c : Comparison). c.fact) same))
    ∙ ap₂ (λ stated replayed. record { which = b.which; stated = stated; replayed = replayed }) (ap (λ (c : Comparison). c.stated) same) (ap (λ (c : Comparison). c.replayed) same)

one_difference : (a b : Record) (told other : FactDiffers) → SayTheSame a b → HasDifference a told → HasDifference b other → told ≡ other
one_difference a b told other same is it =
    differs_same told other
    (same_Some (difference_said told) (difference_said other)
    (sym is.differs ∙ ap₂ first_difference (one_trace a b is.trace it.trace same is.traced it.traced) same.stated ∙ it.differs))

-- a fault that is not that memory ran out
is_fault : (a : Record) (fault : ReplayFault) → IsReplayFaultOf a fault → (¬ IsOutOfMemory fault) × IsFaultOf a.setup a.rules a.script fault
is_fault a (faults.Illegal event at reason) is = ((λ want. want), is)
is_fault a (faults.EndsEarly events) is = ((λ want. want), is)
is_fault a (faults.RakeTooBig pot) is = ((λ want. want), is)
is_fault a (faults.NoShownHand pot) is = ((λ want. want), is)
is_fault a (faults.Memory memory) is = absurd is

-- a hand without a trace is not legal
pub not_legal : (a b : Record) (fault : ReplayFault) (trace : Trace) → SayTheSame a b → IsReplayFaultOf a fault → IsTraceOfLegal b trace → ⊥
not_legal a b fault trace same is it =
    let told = is_fault a fault is in
    no_fault b.setup b.rules b.script fault told.0 it.legal (fault_moved a b fault same told.1)

-- a hand is refused for only one reason
pub one_refusal : (a b : Record) (why other : Refusal) → SayTheSame a b → IsRefusedFor a why → IsRefusedFor b other → why ≡ other
one_refusal a b (refusals.Replay fault) (refusals.Replay other) same is it =
    let told = is_fault a fault is in
    let too = is_fault b other it in
    ap refusals.Replay (one_fault b.setup b.rules b.script fault other told.0 too.0 (fault_moved a b fault same told.1) too.1)
one_refusal a b (refusals.Replay fault) (refusals.Fact differs) same is it = absurd (not_legal a b fault it.trace same is it.traced)
one_refusal a b (refusals.Fact differs) (refusals.Replay fault) same is it = absurd (not_legal b a fault is.trace (turned a b same) it is.traced)
one_refusal a b (refusals.Fact differs) (refusals.Fact other) same is it = ap refusals.Fact (one_difference a b differs other same is it)

-- and then it has no play
pub not_judged : (a : Record) (play : Play) (why : Refusal) → SayTheSame a play.hand → IsRefusedFor a why → IsLegalPlay play → ⊥
not_judged a play (refusals.Replay fault) same is judged = not_legal a play.hand fault play.trace same is judged.traced
not_judged a play (refusals.Fact differs) same is judged =
    cc (is.differs, judged.agrees, ap₂ first_difference (one_trace a play.hand is.trace play.trace same is.traced judged.traced) same.stated)

-- lists of records say the same of their plays
unfoldable pub AllTheSame : List Record → List Record → Type 0
AllTheSame [] [] = Unit {0}
AllTheSame [] (b ∷ others) = ⊥
AllTheSame (a ∷ rest) [] = ⊥
AllTheSame (a ∷ rest) (b ∷ others) = SayTheSame a b × AllTheSame rest others

pub all_turned : (records others : List Record) → AllTheSame records others → AllTheSame others records
unfolding AllTheSame
all_turned [] [] same = tt
all_turned [] (b ∷ others) same = same
all_turned (a ∷ rest) [] same = same
all_turned (a ∷ rest) (b ∷ others) same = (turned a b same.0, all_turned rest others same.1)

pub all_itself : (records : List Record) → AllTheSame records records
unfolding AllTheSame
all_itself [] = tt
all_itself (a ∷ rest) = (itself a, all_itself rest)

-- there is only one first refused hand, and it is refused for one reason
one_refused : (xs ys : List Play) (a b : Record) (left right : List Record) (why other : Refusal)
    → All IsLegalPlay xs → All IsLegalPlay ys → IsRefusedFor a why → IsRefusedFor b other
    → AllTheSame (hands_of xs ++ a ∷ left) (hands_of ys ++ b ∷ right) → (length xs ≡ length ys) × (why ≡ other)
unfolding AllTheSame
one_refused [] [] a b left right why other xs_are ys_are is it same = (refl, one_refusal a b why other same.0 is it)
one_refused [] (y ∷ ys) a b left right why other xs_are ys_are is it same = absurd (not_judged a y why same.0 is (All-head IsLegalPlay y ys ys_are))
one_refused (x ∷ xs) [] a b left right why other xs_are ys_are is it same = absurd (not_judged b x other (turned x.hand b same.0) it (All-head IsLegalPlay x xs xs_are))
one_refused (x ∷ xs) (y ∷ ys) a b left right why other xs_are ys_are is it same =
    let rest = one_refused xs ys a b left right why other (All-tail IsLegalPlay x xs xs_are) (All-tail IsLegalPlay y ys ys_are) is it same.1 in
    (ap suc rest.0, rest.1)

pub same_refused : (records others : List Record) (number count : ℕ) (why other : Refusal)
    → AllTheSame records others → IsFirstRefused records number why → IsFirstRefused others count other → (number ≡ count) × (why ≡ other)
same_refused records others number count why other same is it =
    let here : AllTheSame (hands_of is.before ++ is.hand ∷ is.behind) (hands_of it.before ++ it.hand ∷ it.behind) =
    subst (λ (rs : List Record). AllTheSame rs (hands_of it.before ++ it.hand ∷ it.behind)) (sym is.where_it_stands)
    (subst (AllTheSame records) (sym it.where_it_stands) same) in
    let found = one_refused is.before it.before is.hand it.hand is.behind it.behind why other is.judged it.judged is.refused it.refused here in
    (is.counted ∙ ap (λ n. n + 1) found.0 ∙ sym it.counted, found.1)

-- if one of the hands is refused, they have no plays
none_judged : (plays xs : List Play) (a : Record) (left : List Record) (why : Refusal)
    → All IsLegalPlay plays → IsRefusedFor a why → AllTheSame (hands_of xs ++ a ∷ left) (hands_of plays) → ⊥
unfolding AllTheSame
none_judged [] [] a left why judged is same = same
none_judged [] (x ∷ xs) a left why judged is same = same
none_judged (p ∷ ps) [] a left why judged is same = not_judged a p why same.0 is (All-head IsLegalPlay p ps judged)
none_judged (p ∷ ps) (x ∷ xs) a left why judged is same = none_judged ps xs a left why (All-tail IsLegalPlay p ps judged) is same.1

pub no_plays : (records others : List Record) (number : ℕ) (why : Refusal) (plays : List Play)
    → AllTheSame records others → IsFirstRefused records number why → ArePlaysOf others plays → ⊥
no_plays records others number why plays same is are =
    none_judged plays is.before is.hand is.behind why are.judged is.refused
    (subst (λ (rs : List Record). AllTheSame rs (hands_of plays)) (sym is.where_it_stands) (subst (AllTheSame records) (sym are.same) same))

-- plays have the same traces, and their records say the same
unfoldable pub AllTraced : List Play → List Play → Type 0
AllTraced [] [] = Unit {0}
AllTraced [] (q ∷ qs) = ⊥
AllTraced (p ∷ ps) [] = ⊥
AllTraced (p ∷ ps) (q ∷ qs) = ((p.trace ≡ q.trace) × SayTheSame p.hand q.hand) × AllTraced ps qs

each_traced : (plays others : List Play) → All IsLegalPlay plays → All IsLegalPlay others → AllTheSame (hands_of plays) (hands_of others) → AllTraced plays others
unfolding AllTheSame AllTraced
each_traced [] [] judged too same = tt
each_traced [] (q ∷ qs) judged too same = same
each_traced (p ∷ ps) [] judged too same = same
each_traced (p ∷ ps) (q ∷ qs) judged too same = (
  (one_trace p.hand q.hand p.trace q.trace same.0 (All-head IsLegalPlay p ps judged).traced (All-head IsLegalPlay q qs too).traced, same.0),
  each_traced ps qs (All-tail IsLegalPlay p ps judged) (All-tail IsLegalPlay q qs too) same.1,
)

pub same_traces : (records others : List Record) (plays too : List Play) → AllTheSame records others → ArePlaysOf records plays → ArePlaysOf others too → AllTraced plays too
same_traces records others plays too same are is =
    each_traced plays too are.judged is.judged
    (subst (λ (rs : List Record). AllTheSame rs (hands_of too)) (sym are.same) (subst (AllTheSame records) (sym is.same) same))

-- the plays of one list of records are equal
one_list : (plays others : List Play) → AllTraced plays others → hands_of plays ≡ hands_of others → plays ≡ others
unfolding AllTraced
one_list [] [] traced same = refl
one_list [] (q ∷ qs) traced same = absurd traced
one_list (p ∷ ps) [] traced same = absurd traced
one_list (p ∷ ps) (q ∷ qs) traced same =
    let hand : p.hand ≡ q.hand = cc in
    let hands : hands_of ps ≡ hands_of qs = cc in
    ap₂ (λ (h : Record) (t : Trace). record { hand = h; trace = t } ∷ ps) hand traced.0.0
    ∙ ap (λ (rest : List Play). q ∷ rest) (one_list ps qs traced.1 hands)

pub same_plays : (records : List Record) (plays others : List Play) → ArePlaysOf records plays → ArePlaysOf records others → plays ≡ others
same_plays records plays others are is = one_list plays others (same_traces records records plays others (all_itself records) are is) (are.same ∙ sym is.same)

pub one_first : (records : List Record) (number other : ℕ) (why reason : Refusal)
    → IsFirstRefused records number why → IsFirstRefused records other reason → (number ≡ other) × (why ≡ reason)
one_first records number other why reason is it = same_refused records records number other why reason (all_itself records) is it

pub not_both : (records : List Record) (plays : List Play) (number : ℕ) (why : Refusal) → ArePlaysOf records plays → IsFirstRefused records number why → ⊥
not_both records plays number why are is = no_plays records records number why plays (all_itself records) is are
