-- A trace that is written out is that of a hand if their numbers are the same, and if its pots are
-- shared by the rules.
use Rattle.std.proofs.Common.{◌≡◌, true, List, subst}
use Rattle.chip_ledger.specs.PotRow.{plain_shares}
use Rattle.chip_ledger.specs.SeatRow.{amount_of}
use Rattle.play_event.specs.Said.{Said}
use Rattle.play_event.specs.declared.setup.Setup.{Setup}
use Rattle.play_event.specs.TraceCore.{TraceCore, core_after}
use Rattle.hand_canon.specs.TraceRows.{core_said}
use Rattle.hand_canon.specs.WholeTrace.{HasSeats, HasShares}
use Rattle.hand_canon.specs.declared.trace.Trace.{Trace}
use Rattle.worked_hands.specs.PlayOutcomes.{HasTrace}
use Rattle.worked_hands.specs.TraceNumbers.{is_same_list, trace_numbers}
use Rattle.worked_hands.proofs.SameNumbers.{numbers_tell}

pub traced : (setup : Setup) (script : List Said) (trace : Trace) → trace.setup ≡ setup → HasSeats setup.stacks.seats trace
    → is_same_list (trace_numbers (core_said trace)) (trace_numbers (core_after setup script)) ≡ true
    → HasShares setup (core_said trace) (plain_shares trace.shares) (amount_of trace.finish)
    → HasTrace setup script trace
traced setup script trace same seats numbers shares =
    let core : core_said trace ≡ core_after setup script = numbers_tell (core_said trace) (core_after setup script) numbers in
    record {
      same_setup = same;
      seats = seats;
      core = core;
      shares = subst (λ (core : TraceCore). HasShares setup core (plain_shares trace.shares) (amount_of trace.finish)) core shares;
    }
