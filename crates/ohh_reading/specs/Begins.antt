-- The line on which each block of a text begins.
use Rattle.std.specs.Prelude.{ℕ, ◌+◌, Bool, true, false, if◌then◌else◌, List, [], ◌∷◌}
use Rattle.ohh_reading.specs.Blocks.{is_blank, lines_of}

-- the numbers of those lines that begin a block: lines that are not blank, and not inside a block;
-- the first line has this number, and may be inside a block
abbrev pub block_lines_from : (inside : Bool) → ℕ → List (List ℕ) → List ℕ
block_lines_from inside number [] = []
block_lines_from inside number (line ∷ lines) =
    if is_blank line then block_lines_from false (number + 1) lines
    else if inside then block_lines_from true (number + 1) lines
    else number ∷ block_lines_from true (number + 1) lines

-- the numbers of the lines of a text that begin a block, counted from 1
abbrev pub block_lines : List ℕ → List ℕ
block_lines text = block_lines_from false 1 (lines_of text)
