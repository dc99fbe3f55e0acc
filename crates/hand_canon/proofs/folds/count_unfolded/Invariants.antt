use Rattle.std.proofs.Common.{◌≡◌, ◌≤◌}
use Rattle.hand_canon.specs.RowTests.{unfolded_count}
use Rattle.hand_canon.proofs.folds.count_unfolded.Given as goal

-- the seats so far are counted
abbrev pub invariant-loop-index : goal.invariant-loop-index
invariant-loop-index l = (l.count ≡ unfolded_count l.folded l.index) × (l.count ≤ l.index)
