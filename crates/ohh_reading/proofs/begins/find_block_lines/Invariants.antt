use Rattle.std.proofs.Common.{◌≡◌, ◌+◌, ◌≤◌, ◌++◌, [], length}
use Rattle.std.specs.Option.{option_map_or}
use Rattle.ohh_reading.specs.Begins.{block_lines, block_lines_from}
use Rattle.ohh_reading.specs.Blocks.{lines_of}
use Rattle.ohh_reading.proofs.begins.find_block_lines.Given as goal

-- the numbers so far and those of the lines that are left are all of them
abbrev pub invariant-loop-rest : goal.invariant-loop-rest
invariant-loop-rest l = record {
  few : l.count + option_map_or (λ text. 1 + length text.now) l.rest 0 ≤ 1 + length l.fn.text;
  read : l.lines.items ++ block_lines_from l.inside (l.count + 1) (option_map_or (λ text. lines_of text.now) l.rest []) ≡ block_lines l.fn.text;
}

-- the text that is left grows shorter
abbrev pub decreases-loop-rest : goal.decreases-loop-rest
decreases-loop-rest l = option_map_or (λ text. 1 + length text.now) l.rest 0
