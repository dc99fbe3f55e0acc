use Rattle.std.proofs.Common.{◌≡◌, ◌++◌, drop, map}
use Rattle.serde_json.specs.View.{view}
use Rattle.chip_ledger.specs.PotRow.{pots_in}
use Rattle.ohh_writing.specs.Tree.{pot_trees}
use Rattle.ohh_writing.proofs.pots.pot_values.Given as goal

-- the trees so far and those of the pots to come are those of all pots
abbrev pub invariant-loop-place : goal.invariant-loop-place
invariant-loop-place l = map view l.values.items ++ pot_trees l.trace l.place (drop l.place (pots_in l.trace.pots)) ≡ pot_trees l.trace 0 (pots_in l.trace.pots)
