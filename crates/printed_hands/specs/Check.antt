-- What the command `check` prints for legal hands.
use Rattle.std.specs.Prelude.{ℕ, ◌+◌, List, [], ◌∷◌, ◌++◌, length, codes}
use Rattle.std.specs.Fmt.{decimal}
use Rattle.hand_canon.specs.declared.trace.Play.{Play}
use Rattle.chip_ledger.specs.SeatRow.{amounts_in}
use Rattle.chip_ledger.specs.AmountTexts.{spaced}

-- the lines of hands; the first has this number
unfoldable pub each_hand : (ℕ → Play → List ℕ) → ℕ → List Play → List ℕ
each_hand lines number [] = []
each_hand lines number (play ∷ others) = lines number play ++ each_hand lines (number + 1) others

-- the line of a hand: what each player finishes with
abbrev pub check_line : ℕ → Play → List ℕ
check_line number play =
    codes "hand "
    ++ (decimal number ++ (codes ":" ++ (spaced (amounts_in play.trace.finish) ++ codes "\n")))

-- the last line: the number of hands
abbrev pub check_end : ℕ → List ℕ
check_end hands = codes "legal hands: " ++ (decimal hands ++ codes "\n")

-- the line of each hand, and the last line
abbrev pub check_said : List Play → List ℕ
check_said plays = each_hand check_line 1 plays ++ check_end (length plays)
