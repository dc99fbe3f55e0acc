-- The seats one after another.
use Rattle.std.proofs.Common.{◌≡◌, ◌+◌, ◌∙◌, ap, arith, find, option_map, sym}
use Rattle.std.proofs.lemmas.Grind.{common_steps}
use Rattle.hand_canon.specs.Agreement.{finish_compared, difference_of, difference_said, is_different, seats_compared}
use Rattle.hand_canon.proofs.Differences.{next_seat, this_seat}
use Rattle.hand_canon.proofs.agreement.first_finish.Goals as goal

pub returns-then-is_some : goal.returns-then-is_some
returns-then-is_some c =
    let told : option_map difference_said c.compare-found.result ≡ difference_of (finish_compared c.args.trace.now c.in-Some.row (c.loop-index.index + 1)) = grind (arith, common_steps) in
    this_seat difference_said (finish_compared c.args.trace.now c.in-Some.row) c.loop-index.index c.args.trace.now.setup.stacks.seats c.compare-found.result _ c.loop-index-test.true told (grind (arith, c.if-is_some.true, c.is_some.ensures)) c.loop-index.invariant
    ∙ ap (λ row. find is_different (seats_compared c.args.trace.now finish_compared row)) (sym c.in-Some.is)

pub loop-index-preserved : goal.loop-index-preserved
loop-index-preserved c =
    let told : option_map difference_said c.compare-found.result ≡ difference_of (finish_compared c.args.trace.now c.in-Some.row (c.loop-index.index + 1)) = grind (arith, common_steps) in
    next_seat difference_said (finish_compared c.args.trace.now c.in-Some.row) c.loop-index.index c.args.trace.now.setup.stacks.seats c.compare-found.result _ c.loop-index-test.true told (grind (arith, c.if-is_some.false, c.is_some.ensures)) c.loop-index.invariant
