-- The hands of both files are compared, or a fault inside the other file is reported.
use Rattle.std.proofs.Common.{◌≡◌, ◌∙◌, IfOk, List, subst, sym}
use Rattle.std.proofs.lemmas.Result.{IfOk-weaker}
use Rattle.hand_canon.specs.declared.trace.Play.{Play}
use Rattle.poker_cli.specs.AnswerParts.{Answer}
use Rattle.poker_cli.specs.Compare as answers
use Rattle.poker_cli.specs.Compare.{IsComparedWith, compared}
use Rattle.poker_cli.specs.FaultAnswers.{answer_said}
use Rattle.poker_cli.proofs.Replying.{other_told}
use Rattle.poker_cli.proofs.compare.answer_beside.Goals as goal

pub returns-in-Ok : goal.returns-in-Ok
returns-in-Ok c =
    let shown = subst (λ (others : List Play). IfOk c.answer_to_both.result (λ answer. answer_said answer ≡ compared c.args.notes c.args.plays.now others))
    (c.new.ensures ∙ c.deref.ensures.value) c.answer_to_both.ensures in
    IfOk-weaker c.answer_to_both.result _ _
    (λ answer same. subst (λ (a : Answer). IsComparedWith c.args.other.now c.args.notes c.args.file.now c.args.plays.now a) (sym same)
    (answers.OtherPlayed c.in-Ok.others.items c.in-Ok.ensures.plays))
    shown

pub returns-in_ok-answer-in-Err : goal.returns-in_ok-answer-in-Err
returns-in_ok-answer-in-Err c =
    IfOk-weaker c.report_in_file.result _ _
    (λ answer same. subst (λ (a : Answer). IsComparedWith c.args.other.now c.args.notes c.args.file.now c.args.plays.now a) (sym same)
    (other_told c.args.other.now c.args.notes c.args.file.now c.args.plays.now (answer_said c.in_ok-answer-in-Err.answer) c.in-Err.fault c.in-Err.ensures.refused
    c.in_ok-answer-in-Err.ensures))
    c.report_in_file.ensures
