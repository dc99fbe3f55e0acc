-- Each fact is one of those of a replay.
use Rattle.std.proofs.lemmas.Result.{IfOk-weaker}
use Rattle.hand_canon.specs.Agreement.{HasBoundedPots}
use Rattle.hand_canon.specs.LegalHand.{IsLegalHand}
use Rattle.play_event.specs.Tidy.{IsTidy}
use Rattle.hand_canon.specs.TraceRows.{core_said}
use Rattle.hand_canon.specs.WholeTrace.{IsTraceOf}
use Rattle.play_event.specs.Scripts.{past_at_end}
use Rattle.trace_laws.specs.Conserved.{IsConserved}
use Rattle.replay_core.specs.Events.{said_by}
use Rattle.replay_core.specs.Replayed.{IsReplayOf}
use Rattle.replay_core.proofs.replaying.replay.Goals as goal

pub returns-clause-trace : goal.returns-clause-trace
returns-clause-trace c =
    let setup = c.args.setup.now in
    let script = said_by c.args.script.now in
    IfOk-weaker c.replay_by_code.result (IsReplayOf setup c.args.rules.now script) (IsTraceOf setup (past_at_end setup script)) (λ trace is. is.trace) c.replay_by_code.ensures.replayed

pub returns-clause-legal : goal.returns-clause-legal
returns-clause-legal c =
    let setup = c.args.setup.now in
    let script = said_by c.args.script.now in
    IfOk-weaker c.replay_by_code.result (IsReplayOf setup c.args.rules.now script) (λ trace. IsLegalHand setup c.args.rules.now script) (λ trace is. is.legal) c.replay_by_code.ensures.replayed

pub returns-clause-conserved : goal.returns-clause-conserved
returns-clause-conserved c =
    let setup = c.args.setup.now in
    let script = said_by c.args.script.now in
    IfOk-weaker c.replay_by_code.result (IsReplayOf setup c.args.rules.now script) (IsConserved setup (past_at_end setup script)) (λ trace is. is.conserved) c.replay_by_code.ensures.replayed

pub returns-clause-tidy : goal.returns-clause-tidy
returns-clause-tidy c =
    let setup = c.args.setup.now in
    let script = said_by c.args.script.now in
    IfOk-weaker c.replay_by_code.result (IsReplayOf setup c.args.rules.now script) (λ trace. IsTidy (core_said trace)) (λ trace is. is.tidy) c.replay_by_code.ensures.replayed

pub returns-clause-bounded : goal.returns-clause-bounded
returns-clause-bounded c =
    let setup = c.args.setup.now in
    let script = said_by c.args.script.now in
    IfOk-weaker c.replay_by_code.result (IsReplayOf setup c.args.rules.now script) HasBoundedPots (λ trace is. is.bounded) c.replay_by_code.ensures.replayed
