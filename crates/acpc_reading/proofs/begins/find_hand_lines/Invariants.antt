use Rattle.std.proofs.Common.{◌≡◌, ◌+◌, ◌≤◌, ◌++◌, length}
use Rattle.acpc_game.specs.Parts.{lines_of}
use Rattle.acpc_reading.specs.Begins.{hand_lines, hand_lines_from}
use Rattle.acpc_reading.proofs.begins.find_hand_lines.Given as goal

-- the numbers so far and those of the lines that are left are all of them
abbrev pub invariant-loop-line : goal.invariant-loop-line
invariant-loop-line l = record {
  few : l.count + length l.rest ≤ length l.fn.bytes;
  read : l.lines.items ++ hand_lines_from (l.count + 1) (lines_of l.rest) ≡ hand_lines l.fn.bytes;
}

abbrev pub decreases-loop-line : goal.decreases-loop-line
decreases-loop-line l = length l.rest
