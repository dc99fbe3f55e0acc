-- What is printed for the hands is the output, or the answer says which hand is refused or why the
-- bytes cannot be read.
use Rattle.std.proofs.lemmas.Result.{IfOk-weaker}
use Rattle.poker_cli.specs.FaultAnswers.{answer_said}
use Rattle.poker_cli.proofs.Answering.{answer_printed, answer_wrong}
use Rattle.poker_cli.proofs.session.answer_with_session.Goals as goal

pub returns-in-Ok : goal.returns-in-Ok
returns-in-Ok c =
    IfOk-weaker c.answer_with_text.result _ _
    (λ answer shown. answer_printed _ _ _ c.in-Ok.records c.in-Ok.ensures.said c.session_of.result (answer_said answer) c.session_of.ensures.said
    c.session_of.ensures.refused shown) c.answer_with_text.ensures

pub returns-in-Err : goal.returns-in-Err
returns-in-Err c =
    IfOk-weaker c.answer_to_fault.result _ _
    (λ answer shown. answer_wrong _ _ _ (answer_said answer) c.in-Err.fault c.in-Err.ensures.refused shown) c.answer_to_fault.ensures
