use Rattle.std.proofs.Common.{map}
use Rattle.hand_canon.proofs.OneByOne.{seat_more}
use Rattle.ohh_writing.specs.Actions.{action_said, showing}
use Rattle.ohh_writing.proofs.shows.push_showings.Goals as goal

pub loop-index-preserved : goal.loop-index-preserved
loop-index-preserved c =
    seat_more (showing c.args.tidy.now.trace.now) c.loop-index.index (map action_said c.args.actions.now.items) (map action_said c.loop-index.actions.items) (map action_said c.push_showing.new.actions.items) c.loop-index.invariant c.in_ok-push_showing.ensures
