-- The pots so far and those that are left to be cut are all pots.
use Rattle.std.proofs.Common.{◌≡◌, ◌+◌, ◌≤◌, ◌++◌, All, length, map}
use Rattle.chip_ledger.specs.declared.seat_row.TheConstants.{MOST_AMOUNT}
use Rattle.chip_ledger.specs.PotRow.{plain, pots_in, stakes_of}
use Rattle.side_pots.specs.Levels.{levels_above}
use Rattle.side_pots.proofs.Cutting.{left_to_cut}
use Rattle.side_pots.proofs.cut.add_layers.Given as goal

abbrev pub invariant-loop-level : goal.invariant-loop-level
invariant-loop-level l =
    let stakes = stakes_of l.stakes.chips.now l.stakes.live.now in
    record {
      cut : map plain (pots_in l.row) ++ left_to_cut stakes l.below l.unplaced
          ≡ map plain (pots_in l.initial.row) ++ left_to_cut stakes 0 l.dead;
      room : l.row.count + length (levels_above stakes l.below) ≤ l.stakes.chips.now.seats + 1;
      seats : All (λ pot. pot.eligible.seats ≡ l.stakes.chips.now.seats) (pots_in l.initial.row)
          → All (λ pot. pot.eligible.seats ≡ l.stakes.chips.now.seats) (pots_in l.row);
      returned : l.row.returned ≡ l.initial.row.returned;
      bounded : l.unplaced ≤ MOST_AMOUNT;
    }

abbrev pub decreases-loop-level : goal.decreases-loop-level
decreases-loop-level l = length (levels_above (stakes_of l.stakes.chips.now l.stakes.live.now) l.below)
