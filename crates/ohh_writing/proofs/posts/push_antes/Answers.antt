use Rattle.std.proofs.Common.{map}
use Rattle.hand_canon.proofs.OneByOne.{seat_more}
use Rattle.ohh_writing.specs.Actions.{action_said, ante_post}
use Rattle.ohh_writing.proofs.posts.push_antes.Goals as goal

pub loop-index-preserved : goal.loop-index-preserved
loop-index-preserved c =
    seat_more (ante_post c.args.setup.now) c.loop-index.index (map action_said c.args.actions.now.items) (map action_said c.loop-index.actions.items) (map action_said c.push_ante.new.actions.items) c.loop-index.invariant c.in_ok-push_ante.ensures
