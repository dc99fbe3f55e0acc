-- The answer is made from the plays, or says why there are none.
use Rattle.std.proofs.Common.{List, subst, ◌∙◌}
use Rattle.std.proofs.lemmas.Result.{IfOk-weaker}
use Rattle.hand_canon.specs.declared.trace.Play.{Play}
use Rattle.poker_cli.specs.AnswerParts as answers
use Rattle.poker_cli.specs.Equity.{IsEquityAt}
use Rattle.poker_cli.specs.FaultAnswers.{answer_said}
use Rattle.poker_cli.proofs.Answering.{answer_unplayed}
use Rattle.poker_cli.proofs.equity.answer_with_equity.Goals as goal

pub returns-in-Ok : goal.returns-in-Ok
returns-in-Ok c =
    IfOk-weaker c.equity_in_plays.result _ _
    (λ answer is. answers.Played c.in-Ok.plays.items c.in-Ok.ensures.plays (answer_said answer)
    (subst (λ (plays : List Play). IsEquityAt c.args.hand c.args.street plays (answer_said answer)) (c.new.ensures ∙ c.deref.ensures.value) is))
    c.equity_in_plays.ensures

pub returns-in-Err : goal.returns-in-Err
returns-in-Err c =
    IfOk-weaker c.answer_to_fault.result _ _
    (λ answer shown. answer_unplayed _ _ _ (answer_said answer) c.in-Err.fault c.in-Err.ensures.refused shown) c.answer_to_fault.ensures
