-- All seats so far reach the level.
use Rattle.std.proofs.Common.{◌≡◌, true}
use Rattle.chip_ledger.specs.Pots.{is_reached_by_all}
use Rattle.chip_ledger.proofs.Stakes.{stakes_upto}
use Rattle.side_pots.proofs.levels.every_live_seat_reaches.Given as goal

abbrev pub invariant-loop-index : goal.invariant-loop-index
invariant-loop-index l = is_reached_by_all (stakes_upto l.stakes.chips.now l.stakes.live.now l.index) l.level ≡ true
