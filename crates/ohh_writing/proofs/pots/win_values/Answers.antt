use Rattle.std.proofs.Common.{[], map}
use Rattle.serde_json.specs.View.{view}
use Rattle.hand_canon.proofs.OneByOne.{seat_more}
use Rattle.ohh_writing.specs.Tree.{win_tree}
use Rattle.ohh_writing.proofs.pots.win_values.Goals as goal

pub loop-index-preserved : goal.loop-index-preserved
loop-index-preserved c =
    seat_more (win_tree c.args.share.now) c.loop-index.index [] (map view c.loop-index.wins.items) (map view c.push_win.new.wins.items) c.loop-index.invariant c.in_ok-push_win.ensures
