-- The input is divided into blocks by lines with nothing but spaces, tabs and carriage returns.
use Rattle.std.specs.Prelude.{ℕ, ◌==◌, ◌||◌, Bool, if◌then◌else◌, List, [], ◌∷◌, ◌++◌, Option, Some, None}
use Rattle.std.specs.List.{slice_split, list_all}

-- the lines of a text
abbrev pub lines_of : List ℕ → List (List ℕ)
lines_of text = slice_split (λ sign. sign == 10) text

-- a line that separates blocks
abbrev pub is_blank : List ℕ → Bool
is_blank line = list_all (λ sign. ((sign == 32) || (sign == 9)) || (sign == 13)) line

-- the blocks of lines, after the lines of a block that is not complete yet, if there is one
abbrev pub blocks_from : Option (List ℕ) → List (List ℕ) → List (List ℕ)
blocks_from None [] = []
blocks_from (Some block) [] = block ∷ []
blocks_from None (line ∷ lines) =
    if is_blank line then blocks_from None lines else blocks_from (Some line) lines
blocks_from (Some block) (line ∷ lines) =
    if is_blank line
    then block ∷ blocks_from None lines
    else blocks_from (Some (block ++ 10 ∷ line)) lines

-- the blocks of a text: runs of lines that are not blank
abbrev pub blocks_of : List ℕ → List (List ℕ)
blocks_of text = blocks_from None (lines_of text)
