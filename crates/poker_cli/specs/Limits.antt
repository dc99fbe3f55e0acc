-- The line that is printed where a limit is passed: what is counted, and the most of it.
use Rattle.std.specs.Prelude.{ℕ, List, ◌++◌, codes}
use Rattle.std.specs.Fmt.{decimal}
use Rattle.play_event.specs.declared.hand_limits.TheConstants.{MOST_MOVES, MOST_OTHER_EVENTS}
use Rattle.first_fault.specs.Quantities.{quantity_text}
use Rattle.first_fault.specs.declared.limits.Quantity.{Quantity}
use Rattle.first_fault.specs.declared.limits.Quantity.TheVariants as quantities
use Rattle.first_fault.specs.declared.limits.TheConstants.{MOST_FILE_MOVES, MOST_HANDS, MOST_TEXT_BYTES}

-- the line of a limit
abbrev pub excess_line : (what : List ℕ) (most : ℕ) → List ℕ
excess_line what most = codes "limit: " ++ (what ++ (codes " " ++ (decimal most ++ codes "\n")))

-- the most of a quantity that a file may have
abbrev pub most_of : Quantity → ℕ
most_of quantities.Hands = MOST_HANDS
most_of quantities.Moves = MOST_MOVES
most_of quantities.OtherEvents = MOST_OTHER_EVENTS
most_of quantities.FileMoves = MOST_FILE_MOVES
most_of quantities.TextBytes = MOST_TEXT_BYTES

-- the line of a limit that the hands of a file pass
abbrev pub limit_line : Quantity → List ℕ
limit_line quantity = excess_line (quantity_text quantity) (most_of quantity)
