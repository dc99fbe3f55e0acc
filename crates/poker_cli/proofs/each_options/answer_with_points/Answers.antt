-- The options of the hand are the output, or there is no such hand.
use Rattle.std.proofs.Common.{◌≤◌, length, ap, subst, sym, ◌∙◌, string_bytes, arith}
use Rattle.std.proofs.lemmas.Result.{IfOk-weaker}
use Rattle.poker_cli.specs.Each as each
use Rattle.poker_cli.specs.Each.{IsEveryPoint}
use Rattle.poker_cli.specs.AnswerParts.{no_hand}
use Rattle.poker_cli.proofs.EachHand.{not_numbered, numbered}
use Rattle.poker_cli.proofs.each_options.answer_with_points.Goals as goal

pub returns-then-count-index : goal.returns-then-count-index
returns-then-count-index c =
    let records = c.args.records.now in
    let beyond : length records ≤ c.saturating_sub-index.result = omega (arith, c.if-count-index.true, c.len-count.ensures.count) in
    IfOk-weaker c.answer_no_hand.result _ _
    (λ answer shown. subst (IsEveryPoint c.args.hand records) (sym (shown ∙ ap (no_hand c.args.hand) c.len-count.ensures.count))
    (each.NoSuchHand (not_numbered records c.args.hand c.saturating_sub-index.result c.saturating_sub-index.ensures beyond)))
    c.answer_no_hand.ensures

pub returns : goal.returns
returns c =
    let records = c.args.records.now in
    let here = numbered records c.args.hand c.saturating_sub-index.result c.get-record.result.record.now c.saturating_sub-index.ensures c.get-record.ensures in
    subst (IsEveryPoint c.args.hand records) (sym c.done_with_text.ensures)
    (each.AtPoints c.get-record.result.record.now here (string_bytes c.in_ok-text.text) c.in_ok-text.ensures)
