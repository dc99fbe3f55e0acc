-- Pasts of which a trace keeps the same have the same whole traces.
use Rattle.std.proofs.Common.{◌≡◌, subst, sym, ◌∙◌}
use Rattle.chip_ledger.specs.SeatRow.{amount_of}
use Rattle.play_event.specs.Past.{Past}
use Rattle.play_event.specs.declared.setup.Setup.{Setup}
use Rattle.play_event.specs.TraceCore.{TraceCore, core_of}
use Rattle.hand_canon.specs.declared.trace.Trace.{Trace}
use Rattle.chip_ledger.specs.PotRow.{plain_shares}
use Rattle.hand_canon.specs.WholeTrace.{HasShares, IsTraceOf}

-- a whole trace of one past is one of every past of which the trace keeps the same
pub whole_same : (setup : Setup) (past later : Past) (trace : Trace) → core_of setup later ≡ core_of setup past → IsTraceOf setup past trace → IsTraceOf setup later trace
whole_same setup past later trace same is =
    record {
      same_setup = is.same_setup;
      seats = is.seats;
      core = is.core ∙ sym same;
      shares = subst (λ (core : TraceCore). HasShares setup core (plain_shares trace.shares) (amount_of trace.finish)) (sym same) is.shares;
    }
