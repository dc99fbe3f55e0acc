use Rattle.std.proofs.Common.{refl}
use Rattle.hand_order.proofs.mask.top.Goals as goal
use Rattle.card_set.proofs.Bits.{top_highest, top_set}

pub returns-clause-set : goal.returns-clause-set
returns-clause-set c = top_set c.args.mask _ c.requires c.ranges.mask.fits refl

pub returns-clause-highest : goal.returns-clause-highest
returns-clause-highest c = λ k set. top_highest c.args.mask _ k c.requires c.ranges.mask.fits refl set
