-- One more hand, and the report on all hands.
use Rattle.std.proofs.Common.{◌≡◌, ◌+◌, ◌++◌, [], ◌∷◌, take, sym, ap, subst, ◌∙◌, arith}
use Rattle.std.proofs.lemmas.List.{length-take-le, take_all, take_more}
use Rattle.printed_hands.specs.SoFar.{IsReportSoFar}
use Rattle.printed_hands.proofs.report.report_text.Goals as goal

pub add_play-requires : goal.add_play-requires
add_play-requires c =
    let plays = c.args.plays.now in
    let index = c.loop-play.play-index in (
      take index plays,
      c.loop-play.invariant,
      omega (arith, length-take-le index plays (omega (arith, c.loop-play-test.true)), c.loop-play-test.true, c.requires.few),
    )

pub loop-play-preserved : goal.loop-play-preserved
loop-play-preserved c =
    let plays = c.args.plays.now in
    let index = c.loop-play.play-index in
    let play = c.play-item.result in
    let more : take (index + 1) plays ≡ take index plays ++ play ∷ [] =
    take_more plays index play c.loop-play-test.true ∙ ap (λ one. take index plays ++ one ∷ []) (sym c.play-item.is) in
    subst (IsReportSoFar c.add_play.new.self) (sym more) (c.in_ok-add_play.ensures (take index plays) c.loop-play.invariant)

pub text-requires : goal.text-requires
text-requires c =
    let plays = c.args.plays.now in
    let index = c.loop-play.play-index in
    let whole : take index plays ≡ plays = take_all index plays (omega (arith, c.loop-play-test.false)) in (
      plays,
      subst (IsReportSoFar c.loop-play.report) whole c.loop-play.invariant,
      c.requires.few,
    )

pub returns : goal.returns
returns c =
    let plays = c.args.plays.now in
    let index = c.loop-play.play-index in
    c.text.ensures plays
    (subst (IsReportSoFar c.loop-play.report) (take_all index plays (omega (arith, c.loop-play-test.false))) c.loop-play.invariant)
