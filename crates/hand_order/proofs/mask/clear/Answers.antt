use Rattle.hand_order.proofs.mask.clear.Goals as goal
use Rattle.card_set.proofs.Bits.{cleared}

pub returns-clause-bits : goal.returns-clause-bits
returns-clause-bits c = λ k. cleared c.args.mask c.args.place k c.ranges.mask.fits c.requires
