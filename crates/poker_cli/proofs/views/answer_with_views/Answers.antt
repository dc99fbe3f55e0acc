-- What a seat saw of the hands is the output, or the answer says which hand is refused or why the
-- bytes cannot be read.
use Rattle.std.proofs.Common.{subst}
use Rattle.std.proofs.lemmas.Result.{IfOk-weaker}
use Rattle.convert_core.specs.Judged.{IsPlaysFaultOf}
use Rattle.convert_core.specs.declared.refusal.PlaysFault.{PlaysFault}
use Rattle.poker_cli.specs.AnswerParts as answers
use Rattle.poker_cli.specs.FaultAnswers.{answer_said}
use Rattle.poker_cli.proofs.Answering.{answer_refused, answer_wrong}
use Rattle.poker_cli.proofs.views.answer_with_views.Goals as goal

pub returns-in-Ok-views_of : goal.returns-in-Ok-views_of
returns-in-Ok-views_of c =
    let is = c.in-Ok-views_of.ensures.answer in
    answers.Played is.plays (record { records = c.in-Ok.records; say = c.in-Ok.ensures.said; are = is.are }) (answer_said c.in-Ok-views_of.answer) is.said

pub returns-in-Err-Refused : goal.returns-in-Err-Refused
returns-in-Err-Refused c =
    IfOk-weaker c.answer_to_refused.result _ _
    (λ answer shown. answer_refused _ _ _ (answer_said answer) c.in-Err-Refused.hand c.in-Err-Refused.why
    (record {
      records = c.in-Ok.records;
      say = c.in-Ok.ensures.said;
      first = subst (λ (fault : PlaysFault). IsPlaysFaultOf c.in-Ok.records fault) c.in-Err-Refused.field-0-is c.in-Err-Refused.ensures.refused;
    })
    shown) c.answer_to_refused.ensures

pub returns-in-Err : goal.returns-in-Err
returns-in-Err c =
    IfOk-weaker c.answer_to_fault.result _ _
    (λ answer shown. answer_wrong _ _ _ (answer_said answer) c.in-Err.fault c.in-Err.ensures.refused shown) c.answer_to_fault.ensures
