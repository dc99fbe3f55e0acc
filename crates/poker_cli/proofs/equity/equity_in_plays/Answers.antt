-- The equity of the hand is the output, or there is no such hand, street or known card.
use Rattle.std.proofs.Common.{◌≤◌, length, ap, subst, sym, ◌∙◌, arith}
use Rattle.std.proofs.lemmas.Result.{IfOk-weaker}
use Rattle.chip_ledger.specs.declared.numbers.Seat.{Seat}
use Rattle.hand_canon.specs.declared.trace.Play.{Play}
use Rattle.hand_equity.specs.Street.{HasNoEquity}
use Rattle.hand_equity.specs.Text.{equity_said}
use Rattle.hand_equity.specs.declared.refusal.NoEquity.{NoEquity}
use Rattle.poker_cli.specs.AnswerParts.{done, no_hand}
use Rattle.poker_cli.specs.Equity.{IsEquityAt, no_cards}
use Rattle.poker_cli.specs.Equity as in_equity
use Rattle.poker_cli.proofs.Numbered.{found, not_found}
use Rattle.poker_cli.proofs.equity.equity_in_plays.Goals as goal

pub returns-then-count-index : goal.returns-then-count-index
returns-then-count-index c =
    let plays = c.args.plays.now in
    let beyond : length plays ≤ c.saturating_sub-index.result = omega (arith, c.if-count-index.true, c.len-count.ensures) in
    IfOk-weaker c.answer_no_hand.result _ _
    (λ answer shown. subst (IsEquityAt c.args.hand c.args.street plays) (sym (shown ∙ ap (no_hand c.args.hand) c.len-count.ensures))
    (in_equity.NoneNumbered (not_found plays c.args.hand c.saturating_sub-index.result c.saturating_sub-index.ensures beyond)))
    c.answer_no_hand.ensures

pub returns-in_ok-text-in-Ok : goal.returns-in_ok-text-in-Ok
returns-in_ok-text-in-Ok c =
    let plays = c.args.plays.now in
    let play = c.get-play.result in
    let here = found plays c.args.hand c.saturating_sub-index.result play c.saturating_sub-index.ensures c.get-play.ensures in
    subst (IsEquityAt c.args.hand c.args.street plays) (sym (c.done_with_bytes.ensures ∙ ap done (c.in_ok-text-in-Ok.ensures ∙ ap (λ (play : Play). equity_said c.args.hand c.args.street play.trace c.in-Ok.row) c.play.ensures.same)))
    (in_equity.Counted play here c.in-Ok.row c.in-Ok.ensures.equity)

pub returns-in-Err-NoStreet : goal.returns-in-Err-NoStreet
returns-in-Err-NoStreet c =
    let plays = c.args.plays.now in
    let play = c.get-play.result in
    let here = found plays c.args.hand c.saturating_sub-index.result play c.saturating_sub-index.ensures c.get-play.ensures in
    let lacks = subst (λ (why : NoEquity). HasNoEquity play.trace c.args.street why) c.in-Err-NoStreet.field-0-is c.in-Err-NoStreet.ensures.refused in
    IfOk-weaker c.answer_no_street.result _ _
    (λ answer shown. subst (IsEquityAt c.args.hand c.args.street plays) (sym shown) (in_equity.NoBoard play here lacks))
    c.answer_no_street.ensures

pub returns-in-Err-UnknownCards : goal.returns-in-Err-UnknownCards
returns-in-Err-UnknownCards c =
    let plays = c.args.plays.now in
    let play = c.get-play.result in
    let here = found plays c.args.hand c.saturating_sub-index.result play c.saturating_sub-index.ensures c.get-play.ensures in
    let lacks = subst (λ (why : NoEquity). HasNoEquity play.trace c.args.street why) c.in-Err-UnknownCards.field-0-is c.in-Err-UnknownCards.ensures.refused in
    IfOk-weaker c.answer_no_cards.result _ _
    (λ answer shown. subst (IsEquityAt c.args.hand c.args.street plays) (sym (shown ∙ ap (no_cards c.args.hand) (ap (λ (seat : Seat). seat.number) c.in-Err-UnknownCards.seat-is))) (in_equity.NoCards play here c.in-Err-UnknownCards.seat lacks))
    c.answer_no_cards.ensures
