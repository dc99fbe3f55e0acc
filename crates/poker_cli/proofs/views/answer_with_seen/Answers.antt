-- The lines are the output, or the game has no such seat, or the lines exceed the limit of bytes.
use Rattle.std.proofs.Common.{◌≡◌, ◌≤◌, ◌<◌, true, false, ap, subst, sym, ◌∙◌, arith, rules}
use Rattle.std.proofs.lemmas.Result.{IfOk-weaker}
use Rattle.poker_cli.specs.AnswerParts.{done, refusal}
use Rattle.poker_cli.specs.Views.{AreViews}
use Rattle.poker_cli.specs.Views as in_views
use Rattle.poker_cli.specs.declared.status.Status.TheVariants as statuses
use Rattle.poker_cli.proofs.SeenViews.{are_many}
use Rattle.poker_cli.proofs.views.answer_with_seen.Goals as goal

pub returns-then-seats-seen : goal.returns-then-seats-seen
returns-then-seats-seen c = λ plays seen.
    let beyond : c.args.seen.game.stacks.seats < c.args.seen.seat.number = omega (arith, c.if-seats-seen.true) in
    IfOk-weaker c.answer_no_seat.result _ _
    (λ answer shown. subst (AreViews c.args.seen.game c.args.seen.seat plays) (sym shown) (in_views.NoSeat beyond))
    c.answer_no_seat.ensures

pub returns-then-not-seen : goal.returns-then-not-seen
returns-then-not-seen c = λ plays seen.
    let there : c.args.seen.seat.number ≤ c.args.seen.game.stacks.seats = omega (arith, c.if-seats-seen.false) in
    let not : c.args.seen.kept ≡ false = search rules in
    subst (AreViews c.args.seen.game c.args.seen.seat plays)
    (sym (c.answer_with_line.ensures ∙ ap (refusal statuses.Limit) c.in_ok-line.ensures))
    (in_views.TooMany there (are_many c.args.seen.game c.args.seen.seat c.args.seen.kept c.args.seen.lines.items plays seen there not))

pub returns : goal.returns
returns c = λ plays seen.
    let there : c.args.seen.seat.number ≤ c.args.seen.game.stacks.seats = omega (arith, c.if-seats-seen.false) in
    let kept : c.args.seen.kept ≡ true = search rules in
    subst (AreViews c.args.seen.game c.args.seen.seat plays) (sym (c.done_with_bytes.ensures ∙ ap done (seen.all kept))) (in_views.Seen there (seen.few kept))
