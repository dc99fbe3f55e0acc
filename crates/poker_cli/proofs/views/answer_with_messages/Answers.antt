-- Logs have messages.
use Rattle.std.proofs.Common.{IfOk, subst, sym}
use Rattle.poker_cli.specs.AnswerParts.{IsAnswerTo}
use Rattle.poker_cli.specs.Views.{AreMessages}
use Rattle.poker_cli.specs.FaultAnswers.{answer_said}
use Rattle.convert_core.specs.Formats.{HaveFault, SayRecords}
use Rattle.convert_core.specs.declared.format.Format.{Format}
use Rattle.poker_cli.proofs.views.answer_with_messages.Goals as goal

pub returns-in-Phh : goal.returns-in-Phh
returns-in-Phh c =
    subst
    (λ (reader : Format). IfOk c.answer_without_messages.result (λ answer. IsAnswerTo (SayRecords c.args.from.now c.args.bytes.now)
    (HaveFault c.args.from.now c.args.bytes.now) (AreMessages reader c.args.seat) (answer_said answer)))
    (sym c.in-Phh.is) c.answer_without_messages.ensures

pub returns-in-Ohh : goal.returns-in-Ohh
returns-in-Ohh c =
    subst
    (λ (reader : Format). IfOk c.answer_without_messages-in-Ohh.result (λ answer. IsAnswerTo (SayRecords c.args.from.now c.args.bytes.now)
    (HaveFault c.args.from.now c.args.bytes.now) (AreMessages reader c.args.seat) (answer_said answer)))
    (sym c.in-Ohh.is) c.answer_without_messages-in-Ohh.ensures

pub returns-in-Acpc : goal.returns-in-Acpc
returns-in-Acpc c =
    subst
    (λ (reader : Format). IfOk c.answer_with_views.result (λ answer. IsAnswerTo (SayRecords c.args.from.now c.args.bytes.now)
    (HaveFault c.args.from.now c.args.bytes.now) (AreMessages reader c.args.seat) (answer_said answer)))
    (sym c.in-Acpc.is) c.answer_with_views.ensures
