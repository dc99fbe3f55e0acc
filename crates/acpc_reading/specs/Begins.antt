-- The line on which each hand of a log begins.
use Rattle.std.specs.Prelude.{ℕ, ◌+◌, if◌then◌else◌, List, [], ◌∷◌}
use Rattle.acpc_game.specs.Parts.{lines_of}
use Rattle.acpc_reading.specs.Logs.{is_passed_over}

-- the numbers of those lines that are hands; the first line has this number
abbrev pub hand_lines_from : ℕ → List (List ℕ) → List ℕ
hand_lines_from number [] = []
hand_lines_from number (line ∷ lines) =
    if is_passed_over line
    then hand_lines_from (number + 1) lines
    else number ∷ hand_lines_from (number + 1) lines

-- the numbers of the lines of a log that are hands, counted from 1
abbrev pub hand_lines : List ℕ → List ℕ
hand_lines bytes = hand_lines_from 1 (lines_of bytes)
