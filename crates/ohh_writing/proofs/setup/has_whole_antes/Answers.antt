use Rattle.std.proofs.Common.{arith}
use Rattle.std.specs.List.{list_all}
use Rattle.play_event.specs.Seats.{all_seats}
use Rattle.ohh_writing.specs.Spelled.{is_whole_ante}
use Rattle.ohh_writing.proofs.setup.has_whole_antes.Goals as goal
use Rattle.card_set.proofs.Ranges.{all_goes_on}

pub loop-index-preserved : goal.loop-index-preserved
loop-index-preserved c =
    let setup = c.args.setup.now in
    all_goes_on (is_whole_ante setup) c.loop-index.index setup.stacks.seats (list_all (is_whole_ante setup) (all_seats setup)) (omega (arith, c.loop-index-test.true))
    (grind (arith, c.posts_whole_ante.ensures, c.if-not-posts_whole_ante.false)) c.loop-index.invariant
