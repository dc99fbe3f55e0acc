-- The printed text of the first difference of two plays.
use Rattle.std.specs.Prelude.{ℕ, List, ◌++◌, codes, Option, Some, None}
use Rattle.std.specs.Fmt.{decimal}
use Rattle.hand_canon.specs.NoteTable.{note_text}
use Rattle.hand_differences.specs.FirstDifference as found
use Rattle.hand_differences.specs.FirstDifference.{PlainDifference}

-- the text of a card's owner
abbrev pub owner_text : Option ℕ → List ℕ
owner_text None = codes "board"
owner_text (Some seat) = codes "p" ++ decimal seat

-- the text of a difference, such as `move 3, street 1, p2` or `card 9, street 2, board`
abbrev pub difference_text : PlainDifference → List ℕ
difference_text found.Variant = codes "Variant"
difference_text found.SeatCount = codes "SeatCount"
difference_text found.Stacks = codes "Stacks"
difference_text found.BetSizes = codes "BetSizes"
difference_text found.Antes = codes "Antes"
difference_text found.Blinds = codes "Blinds"
difference_text found.Rake = codes "Rake"
difference_text (found.Move number street seat) =
    codes "move "
    ++ (decimal number ++ (codes ", street " ++ (decimal street ++ (codes ", p" ++ decimal seat))))
difference_text (found.Card number street owner) =
    codes "card "
    ++ (decimal number
    ++ (codes ", street " ++ (decimal street ++ (codes ", " ++ owner_text owner))))
difference_text (found.Shown seat) = codes "shown p" ++ decimal seat
difference_text (found.Note name) = codes "Note " ++ note_text name
