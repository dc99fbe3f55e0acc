-- A script has at most one fault, and a legal hand has none.
use Rattle.std.proofs.Common.{◌≡◌, ◌≢◌, ℕ, ◌-◌, ◌<◌, inl, inr, Option, Some, None, List, length, reverse, slice_get, refl, sym, ap, ◌∙◌, arith}
use Rattle.std.specs.Option.{option_map}
use Rattle.std.proofs.lemmas.Bool.{cases_lt, true≢false}
use Rattle.std.proofs.lemmas.List.{length-map}
use Rattle.std.proofs.lemmas.Option.{slice_get_within, same_Some}
use Rattle.hand_canon.specs.LegalHand.{IsLegalHand}
use Rattle.play_event.specs.declared.event.Event.{Event}
use Rattle.play_event.specs.declared.reason.Illegal.{Illegal}
use Rattle.play_event.specs.declared.setup.Rules.{Rules}
use Rattle.play_event.specs.declared.setup.Setup.{Setup}
use Rattle.play_event.specs.Laws.{AreLegal}
use Rattle.play_event.specs.Said.{said_of}
use Rattle.play_event.specs.Scripts.{why_at}
use Rattle.play_laws.proofs.LegalScripts.{legal_script}
use Rattle.replay_core.specs.declared.fault.ReplayFault.{ReplayFault}
use Rattle.replay_core.specs.declared.fault.ReplayFault.TheVariants as faults
use Rattle.replay_core.specs.Events.{IsIllegalAt, said_by}
use Rattle.replay_core.specs.Faults.{IsFaultOf, IsOutOfMemory}
use Rattle.card_set.proofs.Options.{some_is_none}

-- if an event is there, its index is within the script
is_there : (script : List Event) (index at : ℕ) (found : Option Event) → slice_get script index ≡ found → option_map (λ (e : Event). e.at) found ≡ Some at → index < length script
is_there script index at None is action = absurd (some_is_none (sym action))
is_there script index at (Some event) is action = slice_get_within script index event is

-- events that are legal one by one have no illegal one
none_illegal : (setup : Setup) (rules : Rules) (script : List Event) (event at : ℕ) (reason : Illegal) → AreLegal setup rules (reverse (said_by script)) → IsIllegalAt setup rules script event at reason → ⊥
none_illegal setup rules script event at reason legal is =
    let there : event - 1 < length script = is_there script (event - 1) at (slice_get script (event - 1)) refl is.action in
    let within : event - 1 < length (said_by script) = omega (arith, there, length-map script said_of) in
    some_is_none (sym is.first.illegal ∙ (legal_script setup rules (said_by script)).1 legal (event - 1) within)

-- there is one first illegal event
same_event : (setup : Setup) (rules : Rules) (script : List Event) (event other at also : ℕ) (reason why : Illegal) → IsIllegalAt setup rules script event at reason → IsIllegalAt setup rules script other also why → event ≡ other
same_event setup rules script event other at also reason why is it = elim (cases_lt (event - 1) (other - 1)) [
  | inl earlier ↦ absurd (some_is_none (sym is.first.illegal ∙ it.first.legal_before (event - 1) earlier))
  | inr not_earlier ↦ elim (cases_lt (other - 1) (event - 1)) [
    | inl later ↦ absurd (some_is_none (sym it.first.illegal ∙ is.first.legal_before (other - 1) later))
    | inr not_later ↦ omega (arith, not_earlier, not_later, is.counted, it.counted)
  ]
]

same_illegal : (setup : Setup) (rules : Rules) (script : List Event) (event other at also : ℕ) (reason why : Illegal) → IsIllegalAt setup rules script event at reason → IsIllegalAt setup rules script other also why → faults.Illegal event at reason ≡ faults.Illegal other also why
same_illegal setup rules script event other at also reason why is it =
    let same = same_event setup rules script event other at also reason why is it in
    let actions : Some at ≡ Some also = sym is.action ∙ ap (λ n. option_map (λ (e : Event). e.at) (slice_get script (n - 1))) same ∙ it.action in
    let reasons : Some reason ≡ Some why = sym is.first.illegal ∙ ap (λ n. why_at setup rules (said_by script) (n - 1)) same ∙ it.first.illegal in
    ap (λ n. faults.Illegal n at reason) same
    ∙ ap (λ n. faults.Illegal other n reason) (same_Some at also actions)
    ∙ ap (faults.Illegal other also) (same_Some reason why reasons)

pub one_fault : (setup : Setup) (rules : Rules) (script : List Event) (fault other : ReplayFault) → ¬ IsOutOfMemory fault → ¬ IsOutOfMemory other → IsFaultOf setup rules script fault → IsFaultOf setup rules script other → fault ≡ other
one_fault setup rules script (faults.Illegal event at reason) (faults.Illegal other also why) added too is it = same_illegal setup rules script event other at also reason why is it
one_fault setup rules script (faults.Illegal event at reason) (faults.EndsEarly events) added too is it = absurd (none_illegal setup rules script event at reason it.legal is)
one_fault setup rules script (faults.Illegal event at reason) (faults.RakeTooBig pot) added too is it = absurd (none_illegal setup rules script event at reason it.played.legal is)
one_fault setup rules script (faults.Illegal event at reason) (faults.NoShownHand pot) added too is it = absurd (none_illegal setup rules script event at reason it.played.legal is)
one_fault setup rules script (faults.Illegal event at reason) (faults.Memory memory) added too is it = absurd (too tt)
one_fault setup rules script (faults.EndsEarly events) (faults.Illegal event at reason) added too is it = absurd (none_illegal setup rules script event at reason is.legal it)
one_fault setup rules script (faults.EndsEarly events) (faults.EndsEarly others) added too is it = ap faults.EndsEarly (is.counted ∙ sym it.counted)
one_fault setup rules script (faults.EndsEarly events) (faults.RakeTooBig pot) added too is it = absurd (true≢false (sym is.early ∙ it.played.complete))
one_fault setup rules script (faults.EndsEarly events) (faults.NoShownHand pot) added too is it = absurd (true≢false (sym is.early ∙ it.played.complete))
one_fault setup rules script (faults.EndsEarly events) (faults.Memory memory) added too is it = absurd (too tt)
one_fault setup rules script (faults.RakeTooBig pot) (faults.Illegal event at reason) added too is it = absurd (none_illegal setup rules script event at reason is.played.legal it)
one_fault setup rules script (faults.RakeTooBig pot) (faults.EndsEarly events) added too is it = absurd (true≢false (sym it.early ∙ is.played.complete))
one_fault setup rules script (faults.RakeTooBig pot) (faults.RakeTooBig other) added too is it = ap faults.RakeTooBig (same_Some pot other (sym is.above ∙ it.above))
one_fault setup rules script (faults.RakeTooBig pot) (faults.NoShownHand other) added too is it = absurd (some_is_none (sym is.above ∙ it.no_rake_above))
one_fault setup rules script (faults.RakeTooBig pot) (faults.Memory memory) added too is it = absurd (too tt)
one_fault setup rules script (faults.NoShownHand pot) (faults.Illegal event at reason) added too is it = absurd (none_illegal setup rules script event at reason is.played.legal it)
one_fault setup rules script (faults.NoShownHand pot) (faults.EndsEarly events) added too is it = absurd (true≢false (sym it.early ∙ is.played.complete))
one_fault setup rules script (faults.NoShownHand pot) (faults.RakeTooBig other) added too is it = absurd (some_is_none (sym it.above ∙ is.no_rake_above))
one_fault setup rules script (faults.NoShownHand pot) (faults.NoShownHand other) added too is it = ap faults.NoShownHand (same_Some pot other (sym is.unshown ∙ it.unshown))
one_fault setup rules script (faults.NoShownHand pot) (faults.Memory memory) added too is it = absurd (too tt)
one_fault setup rules script (faults.Memory memory) other added too is it = absurd (added tt)

pub no_fault : (setup : Setup) (rules : Rules) (script : List Event) (fault : ReplayFault) → ¬ IsOutOfMemory fault → IsLegalHand setup rules (said_by script) → IsFaultOf setup rules script fault → ⊥
no_fault setup rules script (faults.Illegal event at reason) added legal is = none_illegal setup rules script event at reason legal.played.legal is
no_fault setup rules script (faults.EndsEarly events) added legal is = true≢false (sym is.early ∙ legal.played.complete)
no_fault setup rules script (faults.RakeTooBig pot) added legal is = some_is_none (sym is.above ∙ legal.shareable.no_rake_above)
no_fault setup rules script (faults.NoShownHand pot) added legal is = some_is_none (sym is.unshown ∙ legal.shareable.no_unshown)
no_fault setup rules script (faults.Memory memory) added legal is = added tt
