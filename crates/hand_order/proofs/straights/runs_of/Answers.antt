use Rattle.hand_order.proofs.StraightBits.{runs_bits}
use Rattle.hand_order.proofs.straights.runs_of.Goals as goal

pub returns-clause-bits : goal.returns-clause-bits
returns-clause-bits c = λ k. runs_bits c.args.mask k
