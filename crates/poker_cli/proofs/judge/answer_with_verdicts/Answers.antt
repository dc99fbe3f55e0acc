-- The verdicts on the hands are the output, or the answer says why the bytes cannot be read.
use Rattle.std.proofs.Common.{ℕ, List, ap, subst, sym, ◌∙◌}
use Rattle.std.proofs.lemmas.Result.{IfOk-weaker}
use Rattle.poker_cli.specs.AnswerParts.{done}
use Rattle.poker_cli.specs.Judge as answers
use Rattle.convert_core.specs.Formats.{HaveFault, SayRecords, start_lines}
use Rattle.poker_cli.specs.FaultAnswers.{answer_said}
use Rattle.poker_cli.specs.Judge.{IsJudgement, if_asked, verdicts_said}
use Rattle.poker_cli.proofs.Answering.{not_judged}
use Rattle.poker_cli.proofs.judge.answer_with_verdicts.Goals as goal

pub returns-in_ok-text-in-Ok : goal.returns-in_ok-text-in-Ok
returns-in_ok-text-in-Ok c =
    let judged = c.in_ok-text-in-Ok.ensures in
    subst
    (IsJudgement (SayRecords c.args.from.now c.args.bytes.now) (HaveFault c.args.from.now c.args.bytes.now)
    (if_asked c.args.asked (start_lines c.args.from.now c.args.bytes.now)))
    (sym (c.done_with_text.ensures
    ∙ ap done (judged.said ∙ ap (λ (lines : List ℕ). verdicts_said lines judged.verdicts) c.in_ok-lines-in-Ok.ensures)))
    (answers.Judged c.in-Ok.records c.in-Ok.ensures.said judged.verdicts judged.are)

pub returns-in-Err : goal.returns-in-Err
returns-in-Err c =
    IfOk-weaker c.answer_to_fault.result _ _
    (λ answer shown. not_judged _ _ _ (answer_said answer) c.in-Err.fault c.in-Err.ensures.refused shown) c.answer_to_fault.ensures
