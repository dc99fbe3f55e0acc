use Rattle.std.proofs.Common.{◌≡◌, ◌≤◌, ◌+◌, ◌++◌, length}
use Rattle.betting_numbers.specs.HeightRow.{heights_in}
use Rattle.betting_numbers.proofs.Counts.{counted_first}
use Rattle.betting_numbers.proofs.counting.push_counted.Given as goal

-- the heights so far that are counted this many times come after the others
abbrev pub invariant-loop-height : goal.invariant-loop-height
invariant-loop-height l =
    (heights_in l.row ≡ heights_in l.initial.row ++ counted_first l.counts l.occurrences l.height-index)
    × (l.row.len ≤ l.initial.row.len + l.height-index)
    × (l.row.len ≡ l.initial.row.len + length (counted_first l.counts l.occurrences l.height-index))
