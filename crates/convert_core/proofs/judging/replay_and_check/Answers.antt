-- The play is that of the record, and a difference is reported only for the legal hand that has the
-- trace.
use Rattle.std.proofs.Common.{refl, sym}
use Rattle.convert_core.proofs.judging.replay_and_check.Goals as goal

pub returns-in-Err-check_stated-clause-refused : goal.returns-in-Err-check_stated-clause-refused
returns-in-Err-check_stated-clause-refused c =
    rw c.refused.ensures (
      refl,
      record {
        trace = c.in-Ok.trace;
        traced = record { legal = c.in-Ok.ensures.legal; whole = c.in-Ok.ensures.trace };
        differs = sym c.in-Err-check_stated.ensures;
      },
    )

pub returns-in-Ok-clause-pushed : goal.returns-in-Ok-clause-pushed
returns-in-Ok-clause-pushed c =
    record {
      play = record { hand = c.args.hand; trace = c.in-Ok.trace };
      same = refl;
      judged = record {
        traced = record { legal = c.in-Ok.ensures.legal; whole = c.in-Ok.ensures.trace };
        agrees = sym c.in_default.ensures;
      };
      behind = c.in_ok-try_push-in-Ok.ensures.items;
    }
