-- A play that fits a game is in the logs of it, if they can express it. A play that fits no game is
-- in no logs.
use Rattle.std.proofs.Common.{ap, subst, sym, ◌∙◌}
use Rattle.acpc_format.specs.GameOf.{game_for}
use Rattle.hand_canon.specs.declared.trace.Play.{Play}
use Rattle.hand_gen.specs.Load.{IsInLogs, fits_none}
use Rattle.hand_gen.proofs.counting.in_logs.Goals as goal

pub returns-in-Ok : goal.returns-in-Ok
returns-in-Ok c = λ one.
    let same = sym c.play.ensures.same in
    c.in_logs_of.ensures c.args.play.now one (ap (λ (p : Play). game_for p.trace.setup) same ∙ c.in-Ok.ensures.game)

pub returns-in-Err : goal.returns-in-Err
returns-in-Err c = λ one.
    subst (λ (p : Play). IsInLogs p c.not_spelled.result) c.play.ensures.same
    (fits_none c.in-Err.field-0 c.in-Err.ensures.refused c.not_spelled.ensures.hands c.not_spelled.ensures.bytes)
