-- What the trace of a replay is.
use Rattle.std.specs.Prelude.{List}
use Rattle.hand_canon.specs.declared.trace.Trace.{Trace}
use Rattle.hand_canon.specs.Agreement.{HasBoundedPots}
use Rattle.hand_canon.specs.LegalHand.{IsLegalHand}
use Rattle.play_event.specs.Tidy.{IsTidy}
use Rattle.hand_canon.specs.TraceRows.{core_said}
use Rattle.hand_canon.specs.WholeTrace.{IsTraceOf}
use Rattle.play_event.specs.declared.setup.Rules.{Rules}
use Rattle.play_event.specs.declared.setup.Setup.{Setup}
use Rattle.play_event.specs.Said.{Said}
use Rattle.play_event.specs.Scripts.{past_at_end}
use Rattle.trace_laws.specs.Conserved.{IsConserved}

-- the hand is legal, and this is its trace
pub record IsReplayOf (setup : Setup) (rules : Rules) (script : List Said) (replayed : Trace) : Type
    0 where
  pub trace : IsTraceOf setup (past_at_end setup script) replayed
  pub legal : IsLegalHand setup rules script
  -- no chip is made or lost
  pub conserved : IsConserved setup (past_at_end setup script) replayed
  -- its canonical script can be written
  pub tidy : IsTidy (core_said replayed)
  -- no pot is more than a row can hold
  pub bounded : HasBoundedPots replayed
