-- The chips of a pot in the row, and of one past it.
use Rattle.std.proofs.Common.{arith}
use Rattle.showdown_split.proofs.FirstRake.{chips_at_index, no_chips_at}
use Rattle.showdown_split.proofs.rakes.chips_at.Goals as goal

pub returns-then-index-pots : goal.returns-then-index-pots
returns-then-index-pots c = chips_at_index c.args.pots.now c.args.index c.index-pots-index.result c.if-index-pots.true

pub returns-else-index-pots : goal.returns-else-index-pots
returns-else-index-pots c = no_chips_at c.args.pots.now c.args.index (omega (arith, c.if-index-pots.false))
