use Rattle.std.proofs.Common.{arith}
use Rattle.chip_ledger.proofs.SeatLists.{greatest_more}
use Rattle.ohh_rounds.specs.Posts.{ante_of}
use Rattle.ohh_rounds.proofs.antes.greatest.Goals as goal
use Rattle.ohh_rounds.proofs.antes.greatest.Goals.{then-ante-greatest, else-ante-greatest}

pub loop-index-preserved : goal.loop-index-preserved
loop-index-preserved c posts first =
    let more = greatest_more (ante_of posts) c.loop-index.index in
    let so_far = c.loop-index.invariant posts first in
    let ante = c.ante_or_zero-ante.ensures posts first in
    elim c.if-ante-greatest.branch [
      | then-ante-greatest w ↦ omega (arith, more, so_far, ante, w.greatest-is, w.if-ante-greatest)
      | else-ante-greatest w ↦ omega (arith, more, so_far, ante, w.greatest-is, w.if-ante-greatest)
    ]
