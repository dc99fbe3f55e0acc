-- The plays of the input are compared, or the answer says why there are none.
use Rattle.std.proofs.Common.{List, ◌∙◌, subst}
use Rattle.std.proofs.lemmas.Result.{IfOk-weaker}
use Rattle.hand_canon.specs.declared.trace.Play.{Play}
use Rattle.poker_cli.specs.AnswerParts as parts
use Rattle.poker_cli.specs.Compare.{IsComparedWith}
use Rattle.poker_cli.specs.FaultAnswers.{answer_said}
use Rattle.poker_cli.proofs.Answering.{answer_unplayed}
use Rattle.poker_cli.proofs.compare.answer_with_comparison.Goals as goal

pub returns-in-Ok : goal.returns-in-Ok
returns-in-Ok c =
    IfOk-weaker c.answer_beside.result _ _
    (λ answer is. parts.Played c.in-Ok.plays.items c.in-Ok.ensures.plays (answer_said answer)
    (subst (λ (plays : List Play). IsComparedWith c.args.other.now c.args.notes c.args.file.now plays (answer_said answer)) (c.new.ensures ∙ c.deref.ensures.value) is))
    c.answer_beside.ensures

pub returns-in-Err : goal.returns-in-Err
returns-in-Err c =
    IfOk-weaker c.answer_to_fault.result _ _
    (λ answer shown. answer_unplayed _ _ _ (answer_said answer) c.in-Err.fault c.in-Err.ensures.refused shown)
    c.answer_to_fault.ensures
