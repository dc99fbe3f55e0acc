-- The options of the hand are the output, or there is no such hand, or no such event.
use Rattle.std.proofs.Common.{◌≡◌, ◌≤◌, ◌<◌, length, ap, subst, sym, ◌∙◌, arith}
use Rattle.std.proofs.lemmas.Result.{IfOk-weaker}
use Rattle.hand_canon.specs.declared.trace.Play.{Play}
use Rattle.poker_cli.specs.AnswerParts.{done, no_hand}
use Rattle.poker_cli.specs.Options.{AreOptionsAt, no_event}
use Rattle.poker_cli.specs.Options as in_options
use Rattle.poker_cli.proofs.Numbered.{found, not_found}
use Rattle.poker_cli.proofs.options.options_in_plays.Goals as goal

pub returns-then-count-index : goal.returns-then-count-index
returns-then-count-index c =
    let plays = c.args.plays.now in
    let beyond : length plays ≤ c.saturating_sub-index.result = omega (arith, c.if-count-index.true, c.len-count.ensures) in
    IfOk-weaker c.answer_no_hand.result _ _
    (λ answer shown. subst (AreOptionsAt c.args.hand c.args.events plays) (sym (shown ∙ ap (no_hand c.args.hand) c.len-count.ensures))
    (in_options.NoHand (not_found plays c.args.hand c.saturating_sub-index.result c.saturating_sub-index.ensures beyond)))
    c.answer_no_hand.ensures

pub returns-then-all-events : goal.returns-then-all-events
returns-then-all-events c =
    let plays = c.args.plays.now in
    let play = c.get-play.result in
    let here = found plays c.args.hand c.saturating_sub-index.result play c.saturating_sub-index.ensures c.get-play.ensures in
    let all : c.len-all.result ≡ length play.hand.script = c.len-all.ensures ∙ ap (λ (play : Play). length play.hand.script) c.play.ensures.same in
    let fewer : length play.hand.script < c.args.events = omega (arith, c.if-all-events.true, all) in
    IfOk-weaker c.answer_no_event.result _ _
    (λ answer shown. subst (AreOptionsAt c.args.hand c.args.events plays) (sym (shown ∙ ap (no_event c.args.hand c.args.events) all))
    (in_options.NoEvent play here fewer))
    c.answer_no_event.ensures

pub returns : goal.returns
returns c =
    let plays = c.args.plays.now in
    let play = c.get-play.result in
    let here = found plays c.args.hand c.saturating_sub-index.result play c.saturating_sub-index.ensures c.get-play.ensures in
    let all : c.len-all.result ≡ length play.hand.script = c.len-all.ensures ∙ ap (λ (play : Play). length play.hand.script) c.play.ensures.same in
    let few : c.args.events ≤ length play.hand.script = omega (arith, c.if-all-events.false, all) in
    subst (AreOptionsAt c.args.hand c.args.events plays) (sym (c.done_with_bytes.ensures ∙ ap done c.in_ok-text.ensures))
    (in_options.Listed play here few c.options-options.result c.options-options.ensures.legal)
