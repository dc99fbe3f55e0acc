-- The text is the output, or the refused hand is named.
use Rattle.std.proofs.Common.{Global, IfOk, Result, subst, sym}
use Rattle.std.specs.declared.string.String.{String}
use Rattle.convert_core.specs.declared.refusal.PlaysFault.{PlaysFault}
use Rattle.poker_cli.specs.FaultAnswers.{IsTextAnswer, answer_said}
use Rattle.poker_cli.proofs.answer.answer_with_text.Goals as goal

pub returns-in-Ok : goal.returns-in-Ok
returns-in-Ok c =
    subst (λ (text : Result (String Global) PlaysFault). IsTextAnswer text (answer_said c.done_with_text.result)) (sym c.in-Ok.is) c.done_with_text.ensures

pub returns-in-Err : goal.returns-in-Err
returns-in-Err c =
    subst (λ (text : Result (String Global) PlaysFault). IfOk c.answer_to_plays_fault.result (λ answer. IsTextAnswer text (answer_said answer)))
    (sym c.in-Err.is) c.answer_to_plays_fault.ensures
