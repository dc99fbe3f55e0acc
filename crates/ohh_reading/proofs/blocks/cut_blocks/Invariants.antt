use Rattle.std.proofs.Common.{◌≡◌, ◌+◌, ◌++◌, [], length, map, option_map}
use Rattle.std.specs.Option.{option_map_or}
use Rattle.ohh_reading.specs.Blocks.{blocks_from, blocks_of, lines_of}
use Rattle.ohh_reading.proofs.blocks.cut_blocks.Given as goal

-- the blocks so far, the block that is not complete and those of the lines that are left are all of
-- them
abbrev pub invariant-loop-rest : goal.invariant-loop-rest
invariant-loop-rest l = map (λ block. block.items) l.found.items ++ blocks_from (option_map (λ block. block.items) l.begun) (option_map_or (λ text. lines_of text.now) l.rest []) ≡ blocks_of l.fn.text

-- the text that is left grows shorter
abbrev pub decreases-loop-rest : goal.decreases-loop-rest
decreases-loop-rest l = option_map_or (λ text. 1 + length text.now) l.rest 0
