-- The count so far is that of the seats so far.
use Rattle.std.proofs.Common.{◌≡◌, ◌≤◌}
use Rattle.chip_ledger.specs.LiveRow.{flag_of}
use Rattle.variant_table.specs.Division.{count_to}
use Rattle.showdown_split.proofs.division.flags_to.Given as goal

abbrev pub invariant-loop-index : goal.invariant-loop-index
invariant-loop-index l = (l.count ≡ count_to (flag_of l.row) l.index) × (l.count ≤ l.index)
