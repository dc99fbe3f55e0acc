-- The answer is made from the plays, or says why there are none.
use Rattle.std.proofs.Common.{List, subst, ◌∙◌}
use Rattle.std.proofs.lemmas.Result.{IfOk-weaker}
use Rattle.hand_canon.specs.declared.trace.Play.{Play}
use Rattle.poker_cli.specs.AnswerParts as answers
use Rattle.poker_cli.specs.Game.{IsGameReply}
use Rattle.poker_cli.specs.FaultAnswers.{answer_said}
use Rattle.poker_cli.proofs.Answering.{answer_unplayed}
use Rattle.poker_cli.proofs.game.answer_with_game.Goals as goal

pub returns-in-Ok : goal.returns-in-Ok
returns-in-Ok c =
    IfOk-weaker c.answer_with_first_game.result _ _
    (λ answer is. answers.Played c.in-Ok.plays.items c.in-Ok.ensures.plays (answer_said answer)
    (subst (λ (plays : List Play). IsGameReply plays (answer_said answer)) (c.new.ensures ∙ c.deref.ensures.value) is))
    c.answer_with_first_game.ensures

pub returns-in-Err : goal.returns-in-Err
returns-in-Err c =
    IfOk-weaker c.answer_to_fault.result _ _
    (λ answer shown. answer_unplayed _ _ _ (answer_said answer) c.in-Err.fault c.in-Err.ensures.refused shown) c.answer_to_fault.ensures
