use Rattle.std.proofs.Common.{◌≡◌, ◌+◌, ◌≤◌, [], length, map}
use Rattle.acpc_game.specs.Parts.{lines_of}
use Rattle.acpc_game.specs.Entries.{entry_said}
use Rattle.acpc_game.specs.GameEntries.{entries_after}
use Rattle.acpc_game.proofs.lines.read_lines.Given as goal

-- the entries so far and those of the lines that are left are all of them
abbrev pub invariant-loop-line : goal.invariant-loop-line
invariant-loop-line l = record {
  few : l.count + length l.rest ≤ length l.fn.bytes;
  count : l.count + length (lines_of l.rest) ≡ length (lines_of l.fn.bytes);
  read : entries_after l.no_limit (map entry_said l.entries.items) (l.count + 1) (lines_of l.rest) ≡ entries_after l.no_limit [] 1 (lines_of l.fn.bytes);
}

abbrev pub decreases-loop-line : goal.decreases-loop-line
decreases-loop-line l = length l.rest
