-- What is computed of a hand that is written out: its canonical script, whether that is legal,
-- complete, and leads to the same trace, and whether a trace is that of the hand.
use Rattle.std.specs.Prelude.{◌≡◌, true, false, List}
use Rattle.play_event.specs.declared.setup.Rules.{Rules}
use Rattle.play_event.specs.declared.setup.Setup.{Setup}
use Rattle.play_event.specs.Said.{Said}
use Rattle.play_event.specs.Scripts.{has_early_end, past_at_end}
use Rattle.worked_hands.specs.Outcomes.{AllLegal, AllLegalBy}
use Rattle.play_event.specs.TraceCore.{core_after}
use Rattle.play_event.specs.CanonScript.{canon_of}
use Rattle.hand_canon.specs.declared.trace.Trace.{Trace}
use Rattle.hand_canon.specs.WholeTrace.{IsTraceOf}
use Rattle.worked_hands.specs.TraceNumbers.{is_same_list, trace_numbers}

-- the events of the canonical script are legal
abbrev pub HasLegalCanon : Setup → List Said → Type 0
HasLegalCanon setup script = AllLegal setup (canon_of setup script)

-- they are legal under these rules
abbrev pub HasLegalCanonBy : Rules → Setup → List Said → Type 0
HasLegalCanonBy rules setup script = AllLegalBy rules setup (canon_of setup script)

-- the canonical script is complete
abbrev pub HasCompleteCanon : Setup → List Said → Type 0
HasCompleteCanon setup script = has_early_end setup (canon_of setup script) ≡ false

-- the canonical script leads to the trace of the script
abbrev pub HasSameTrace : Setup → List Said → Type 0
HasSameTrace setup script =
    is_same_list
    (trace_numbers (core_after setup (canon_of setup script)))
    (trace_numbers (core_after setup script))
    ≡ true

-- the whole trace of a script is this one
abbrev pub HasTrace : Setup → List Said → Trace → Type 0
HasTrace setup script trace = IsTraceOf setup (past_at_end setup script) trace
