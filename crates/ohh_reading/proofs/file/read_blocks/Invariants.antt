use Rattle.std.proofs.Common.{◌≡◌, ◌+◌, ◌≤◌, length, map, drop, sum_by}
use Rattle.std.specs.List.{AllByRecursion}
use Rattle.first_fault.specs.declared.limits.TheConstants.{MOST_FILE_MOVES, MOST_HANDS}
use Rattle.first_fault.specs.Reading.{thread_from}
use Rattle.first_fault.proofs.Thread.{behind}
use Rattle.ohh_reading.specs.Reading.{hands_said, numbered_hand}
use Rattle.ohh_reading.proofs.file.read_blocks.Given as goal
use Rattle.hand_canon.specs.Histories.{IsHistory}
use Rattle.hand_canon.specs.Moves.{moves_of}
use Rattle.hand_canon.specs.PlainHands.{plain}

-- the hands so far and those of the blocks that are left are all of them
abbrev pub invariant-loop-index : goal.invariant-loop-index
invariant-loop-index l = record {
  count : length l.records ≡ l.index;
  few : l.index ≤ MOST_HANDS;
  moves : sum_by moves_of l.records ≡ l.file_moves;
  limit : l.file_moves ≤ MOST_FILE_MOVES;
  sound : AllByRecursion IsHistory l.records;
  read : behind (map plain l.records) (thread_from (numbered_hand l.dialect) l.file_moves (l.index + 1) (map (λ block. block.items) (drop l.index l.blocks))) ≡ hands_said l.dialect (map (λ block. block.items) l.blocks);
}
