-- The options after these events are the output, or there is no such hand, or no such event.
use Rattle.std.proofs.Common.{◌≤◌, ◌<◌, length, ap, subst, sym, ◌∙◌, arith}
use Rattle.std.proofs.lemmas.List.{length-map}
use Rattle.std.proofs.lemmas.Result.{IfOk-weaker}
use Rattle.play_event.specs.Said.{said_of}
use Rattle.poker_cli.specs.AnswerParts.{done, no_hand}
use Rattle.poker_cli.specs.Each as each
use Rattle.poker_cli.specs.Each.{IsPoint}
use Rattle.poker_cli.proofs.EachHand.{not_numbered, numbered}
use Rattle.poker_cli.proofs.each_options.answer_with_point.Goals as goal

pub returns-then-count-index : goal.returns-then-count-index
returns-then-count-index c =
    let records = c.args.records.now in
    let beyond : length records ≤ c.saturating_sub-index.result = omega (arith, c.if-count-index.true, c.len-count.ensures.count) in
    IfOk-weaker c.answer_no_hand.result _ _
    (λ answer shown. subst (IsPoint c.args.hand c.args.events records) (sym (shown ∙ ap (no_hand c.args.hand) c.len-count.ensures.count))
    (each.NoHandThere (not_numbered records c.args.hand c.saturating_sub-index.result c.saturating_sub-index.ensures beyond)))
    c.answer_no_hand.ensures

pub returns-then-part-events : goal.returns-then-part-events
returns-then-part-events c =
    let records = c.args.records.now in
    let hand = c.get-sound.result.record.now in
    let here = numbered records c.args.hand c.saturating_sub-index.result hand c.saturating_sub-index.ensures c.get-sound.ensures in
    let past : c.in_ok-part.part.events < c.args.events = omega (arith, c.if-part-events.true) in
    IfOk-weaker c.answer_no_event.result _ _
    (λ answer shown. subst (IsPoint c.args.hand c.args.events records) (sym shown)
    (each.PastLegal hand here c.in_ok-part.part.events c.in_ok-part.ensures.beginning past))
    c.answer_no_event.ensures

pub options_at-options-requires-clause-there : goal.options_at-options-requires-clause-there
options_at-options-requires-clause-there c =
    omega (arith, c.if-part-events.false, c.in_ok-part.ensures.beginning.within, length-map c.get-sound.result.record.now.script said_of)

pub options_at-options-requires-clause-legal_before : goal.options_at-options-requires-clause-legal_before
options_at-options-requires-clause-legal_before c = λ index below.
    c.in_ok-part.ensures.beginning.legal index (omega (arith, below, c.if-part-events.false))

pub returns : goal.returns
returns c =
    let records = c.args.records.now in
    let hand = c.get-sound.result.record.now in
    let here = numbered records c.args.hand c.saturating_sub-index.result hand c.saturating_sub-index.ensures c.get-sound.ensures in
    let within : c.args.events ≤ c.in_ok-part.part.events = omega (arith, c.if-part-events.false) in
    subst (IsPoint c.args.hand c.args.events records) (sym (c.done_with_bytes.ensures ∙ ap done c.in_ok-text.ensures))
    (each.AtPoint hand here c.in_ok-part.part.events c.in_ok-part.ensures.beginning within c.options_at-options.result c.options_at-options.ensures.legal)
