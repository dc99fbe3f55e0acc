-- The hands answer, or the answer says why the bytes cannot be read.
use Rattle.std.proofs.lemmas.Result.{IfOk-weaker}
use Rattle.poker_cli.specs.Each as answers
use Rattle.poker_cli.specs.FaultAnswers.{answer_said}
use Rattle.poker_cli.proofs.Answering.{not_read}
use Rattle.poker_cli.proofs.each_answer.answer_with_each.Goals as goal

pub returns-in-Ok : goal.returns-in-Ok
returns-in-Ok c =
    IfOk-weaker c.answer_to_each.result _ _
    (λ answer is. answers.OfEach c.in-Ok.records c.in-Ok.ensures.said (answer_said answer) is) c.answer_to_each.ensures

pub returns-in-Err : goal.returns-in-Err
returns-in-Err c =
    IfOk-weaker c.answer_to_fault.result _ _
    (λ answer shown. not_read _ _ c.args.question (answer_said answer) c.in-Err.fault c.in-Err.ensures.refused shown) c.answer_to_fault.ensures
