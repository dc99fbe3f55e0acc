-- No pot so far has a rake that is more than its chips.
use Rattle.std.proofs.Common.{◌≡◌, ◌+◌, ◌-◌, find}
use Rattle.std.specs.List.{range_with_len}
use Rattle.chip_ledger.specs.PotRow.{plain_pots}
use Rattle.chip_ledger.specs.Rakes.{first_rake_above}
use Rattle.showdown_split.proofs.FirstRake.{is_above}
use Rattle.showdown_split.proofs.rakes.first_rake_above.Given as goal

abbrev pub invariant-loop-index : goal.invariant-loop-index
invariant-loop-index l =
    find (is_above (plain_pots l.pots) l.rakes) (range_with_len (l.index + 1) (11 - l.index)) ≡ first_rake_above l.rakes (plain_pots l.pots)
