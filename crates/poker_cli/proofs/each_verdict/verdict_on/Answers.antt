-- A legal hand agrees with what is stated, or differs from it first.
use Rattle.std.proofs.Common.{Result, subst, sym}
use Rattle.hand_canon.specs.declared.trace.Trace.{Trace}
use Rattle.poker_cli.specs.Each.{IsOutcomeOf}
use Rattle.replay_core.specs.declared.fault.ReplayFault.{ReplayFault}
use Rattle.poker_cli.proofs.each_verdict.verdict_on.Goals as goal

pub returns-in-Ok-check_stated : goal.returns-in-Ok-check_stated
returns-in-Ok-check_stated c =
    let outcome = subst (λ (one : Result Trace ReplayFault). IsOutcomeOf c.args.hand.now.record.now one) c.in-Ok.is c.requires in
    (c.in-Ok.trace, record { traced = outcome.traced; agrees = sym c.in-Ok-check_stated.ensures })

pub returns-in-Err-check_stated : goal.returns-in-Err-check_stated
returns-in-Err-check_stated c =
    let outcome = subst (λ (one : Result Trace ReplayFault). IsOutcomeOf c.args.hand.now.record.now one) c.in-Ok.is c.requires in
    record { trace = c.in-Ok.trace; traced = outcome.traced; differs = sym c.in-Err-check_stated.ensures }
