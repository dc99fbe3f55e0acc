-- Hands are read, and nothing is printed.
use Rattle.std.proofs.lemmas.Result.{IfOk-weaker}
use Rattle.poker_cli.specs.AnswerParts as answers
use Rattle.poker_cli.specs.FaultAnswers.{answer_said}
use Rattle.poker_cli.proofs.Answering.{answer_unplayed}
use Rattle.poker_cli.proofs.views.answer_without_messages.Goals as goal

pub returns-in-Ok : goal.returns-in-Ok
returns-in-Ok c =
    IfOk-weaker c.no_messages.result _ _
    (λ answer is. answers.Played c.in-Ok.plays.items c.in-Ok.ensures.plays (answer_said answer) is) c.no_messages.ensures

pub returns-in-Err : goal.returns-in-Err
returns-in-Err c =
    IfOk-weaker c.answer_to_fault.result _ _
    (λ answer shown. answer_unplayed _ _ _ (answer_said answer) c.in-Err.fault c.in-Err.ensures.refused shown) c.answer_to_fault.ensures
