-- The bytes in the other notation are the output, or the answer says why there are none.
use Rattle.std.proofs.Common.{ℕ, Global}
use Rattle.std.specs.Prelude.{Vec}
use Rattle.std.proofs.lemmas.Result.{IfOk-weaker}
use Rattle.poker_cli.specs.FaultAnswers.{answer_said}
use Rattle.poker_cli.proofs.Answering.{answer_converted, answer_unconverted}
use Rattle.poker_cli.proofs.convert.answer_with_hands.Goals as goal

pub returns-in-Ok : goal.returns-in-Ok
returns-in-Ok c =
    answer_converted _ _ _ _ _ (answer_said c.done_with_bytes.result) c.in-Ok.output.items c.in-Ok.ensures c.done_with_bytes.ensures

pub returns-in-Err : goal.returns-in-Err
returns-in-Err c =
    IfOk-weaker c.answer_to_fault.result _ _
    (λ answer shown. answer_unconverted _ _ _ _ _ (answer_said answer) {X = Vec ℕ Global} (λ output. output.items) c.in-Err.fault c.in-Err.ensures shown) c.answer_to_fault.ensures
