use Rattle.std.proofs.Common.{arith}
use Rattle.std.specs.List.{list_all}
use Rattle.play_event.specs.Seats.{all_seats}
use Rattle.ohh_writing.specs.Spelled.{is_covered_straddle}
use Rattle.ohh_writing.proofs.setup.has_covered_straddles.Goals as goal
use Rattle.card_set.proofs.Ranges.{all_goes_on}

pub loop-index-preserved : goal.loop-index-preserved
loop-index-preserved c =
    let setup = c.args.setup.now in
    all_goes_on (is_covered_straddle setup) c.loop-index.index setup.stacks.seats (list_all (is_covered_straddle setup) (all_seats setup)) (omega (arith, c.loop-index-test.true))
    (grind (arith, c.covers_straddle.ensures, c.if-not-covers_straddle.false)) c.loop-index.invariant
