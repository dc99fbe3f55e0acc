-- The next level so far is the first above that the seats so far make.
use Rattle.std.proofs.Common.{◌≡◌, slice_get}
use Rattle.chip_ledger.proofs.Stakes.{stakes_upto}
use Rattle.side_pots.specs.Levels.{levels_above}
use Rattle.side_pots.proofs.levels.next_level.Given as goal

abbrev pub invariant-loop-index : goal.invariant-loop-index
invariant-loop-index l = l.next ≡ slice_get (levels_above (stakes_upto l.stakes.chips.now l.stakes.live.now l.index) l.below) 0
