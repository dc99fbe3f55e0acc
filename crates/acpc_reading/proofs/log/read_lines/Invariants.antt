use Rattle.std.proofs.Common.{◌≡◌, ◌+◌, ◌≤◌, [], length, map}
use Rattle.acpc_game.specs.Parts.{lines_of}
use Rattle.acpc_reading.specs.Logs.{hands_after}
use Rattle.acpc_reading.specs.RecordView.{AreOfGame, record_said}
use Rattle.acpc_reading.proofs.log.read_lines.Given as goal

-- the hands so far and those of the lines that are left are all of them
abbrev pub invariant-loop-line : goal.invariant-loop-line
invariant-loop-line l = record {
  few : l.count + length l.rest ≤ length l.fn.bytes;
  kept : AreOfGame l.game l.records l.betting.file_moves;
  read : hands_after l.game (map record_said l.records, l.betting.file_moves) (l.count + 1) (lines_of l.rest) ≡ hands_after l.game ([], 0) 1 (lines_of l.fn.bytes);
}

abbrev pub decreases-loop-line : goal.decreases-loop-line
decreases-loop-line l = length l.rest
