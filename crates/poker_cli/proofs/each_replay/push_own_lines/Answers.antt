-- The lines of a legal hand are those of its trace.
use Rattle.std.proofs.Common.{Result, subst}
use Rattle.std.proofs.lemmas.Result.{on_ok_weaker}
use Rattle.hand_canon.specs.declared.trace.Trace.{Trace}
use Rattle.poker_cli.specs.Each as each
use Rattle.poker_cli.specs.Each.{IsOutcomeOf}
use Rattle.printed_hands.specs.Steps.{replay_lines}
use Rattle.replay_core.specs.declared.fault.ReplayFault.{ReplayFault}
use Rattle.poker_cli.proofs.each_replay.push_own_lines.Goals as goal

pub returns-in-Ok : goal.returns-in-Ok
returns-in-Ok c =
    let outcome = subst (λ (one : Result Trace ReplayFault). IsOutcomeOf c.args.hand.now.record.now one) c.in-Ok.is c.requires in
    on_ok_weaker c.push_whole_lines.result
    (λ more. record {
      added = replay_lines c.args.number (record { hand = c.args.hand.now.record.now; trace = c.in-Ok.trace });
      are = each.Whole c.in-Ok.trace outcome.traced;
      said = more;
    })
    c.push_whole_lines.ensures
