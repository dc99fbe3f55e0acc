use Rattle.std.proofs.Common.{◌≡◌, drop}
use Rattle.std.specs.List.{list_any}
use Rattle.chip_ledger.specs.PotRow.{shares_in}
use Rattle.acpc_format.specs.PlayFacts.{is_uneven}
use Rattle.acpc_format.proofs.odd.has_odd_chip.Given as goal

-- the pots that are left decide
abbrev pub invariant-loop-share : goal.invariant-loop-share
invariant-loop-share l = list_any is_uneven (drop l.share-index (shares_in l.shares)) ≡ list_any is_uneven (shares_in l.shares)
