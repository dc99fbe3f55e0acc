-- Without seats there is no level.
use Rattle.std.proofs.Common.{refl}
use Rattle.chip_ledger.specs.Pots.{levels}
use Rattle.side_pots.proofs.levels.next_level.Goals as goal

pub loop-index-init : goal.loop-index-init
unfolding levels
loop-index-init c = refl
