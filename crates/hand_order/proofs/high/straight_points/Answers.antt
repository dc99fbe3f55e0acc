use Rattle.std.proofs.Common.{arith}
use Rattle.hand_order.proofs.SuitBits.{topped_some}
use Rattle.hand_order.proofs.high.straight_points.Goals as goal

pub returns : goal.returns
returns c = omega (arith, c.above_number.ensures, topped_some c.args.class c.args.top c.if-top-eq0.false)
