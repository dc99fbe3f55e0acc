use Rattle.std.proofs.Common.{arith}
use Rattle.std.specs.List.{list_any}
use Rattle.play_event.specs.Seats.{all_seats}
use Rattle.ohh_writing.specs.Spelled.{has_no_ante}
use Rattle.ohh_writing.proofs.setup.has_seat_without_ante.Goals as goal
use Rattle.card_set.proofs.Ranges.{any_goes_on}

pub loop-index-preserved : goal.loop-index-preserved
loop-index-preserved c =
    let setup = c.args.setup.now in
    any_goes_on (has_no_ante setup) c.loop-index.index setup.stacks.seats (list_any (has_no_ante setup) (all_seats setup)) (omega (arith, c.loop-index-test.true))
    (grind (arith, c.posts_no_ante.ensures, c.if-posts_no_ante.false)) c.loop-index.invariant
