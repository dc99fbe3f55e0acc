-- What is printed of the result of a hand: what is returned, who gets what of each pot, and what
-- each player finishes with.
use Rattle.std.specs.Prelude.{ℕ, ◌+◌, nat_lt, Bool, if◌then◌else◌, List, [], ◌∷◌, ◌++◌, codes, flat_map}
use Rattle.std.specs.Fmt.{decimal}
use Rattle.chip_ledger.specs.declared.pots.Pot.{Pot}
use Rattle.chip_ledger.specs.declared.seat_row.SeatRow.{SeatRow}
use Rattle.chip_ledger.specs.PotRow.{pots_in, shares_in}
use Rattle.hand_canon.specs.declared.trace.Trace.{Trace}
use Rattle.chip_ledger.specs.SeatRow.{amounts_in}
use Rattle.chip_ledger.specs.AmountTexts.{spaced}

-- a seat, as p3
abbrev pub seat_text : ℕ → List ℕ
seat_text seat = 112 ∷ decimal seat

-- the line of what is returned to a seat, if it is not 0
abbrev pub return_line : ℕ → ℕ → List ℕ
return_line seat amount =
    if nat_lt 0 amount
    then codes "return " ++ (seat_text seat ++ (32 ∷ decimal amount ++ codes "\n"))
    else []

-- the lines of what is returned to seats; the first has this number
abbrev pub return_lines : ℕ → List ℕ → List ℕ
return_lines seat [] = []
return_lines seat (amount ∷ others) = return_line seat amount ++ return_lines (seat + 1) others

-- the text for a rake, if one is taken
abbrev pub rake_entry : ℕ → List (List ℕ)
rake_entry rake = if nat_lt 0 rake then (codes "rake " ++ decimal rake) ∷ [] else []

-- the texts for a pot: each share above 0, from this seat on, and then the rake, if one is taken
abbrev pub entries : ℕ → List ℕ → ℕ → List (List ℕ)
entries seat [] rake = rake_entry rake
entries seat (amount ∷ others) rake =
    if nat_lt 0 amount then (seat_text seat ++ 32 ∷ decimal amount) ∷ entries (seat + 1) others rake
    else entries (seat + 1) others rake

-- the separator, unless this is the first entry
abbrev pub divided : Bool → List ℕ
divided is_first = if is_first then [] else codes ", "

-- entries after another one
abbrev pub behind : List (List ℕ) → List ℕ
behind others = flat_map (λ entry. codes ", " ++ entry) others

-- entries, with a comma and a space between two of them
abbrev pub listed : List (List ℕ) → List ℕ
listed [] = []
listed (entry ∷ others) = entry ++ behind others

-- entries at the beginning of a list, or after another one
abbrev pub listed_from : Bool → List (List ℕ) → List ℕ
listed_from is_first others = if is_first then listed others else behind others

-- the line of a pot
abbrev pub pot_line : ℕ → Pot → SeatRow → ℕ → List ℕ
pot_line number pot share rake =
    codes "pot "
    ++ (decimal number
    ++ (32
    ∷ decimal pot.chips
    ++ (codes ": "
    ++ (listed (entries 1 (amounts_in share) rake) ++ codes "\n"))))

-- the lines of pots; the first has this number, and each has its shares and its rake
abbrev pub pot_lines : ℕ → List Pot → List SeatRow → List ℕ → List ℕ
pot_lines number [] shares rakes = []
pot_lines number (pot ∷ pots) [] rakes = []
pot_lines number (pot ∷ pots) (share ∷ shares) [] = []
pot_lines number (pot ∷ pots) (share ∷ shares) (rake ∷ rakes) =
    pot_line number pot share rake ++ pot_lines (number + 1) pots shares rakes

-- the last lines of a hand
abbrev pub ending_lines : Trace → List ℕ
ending_lines trace =
    return_lines 1 (amounts_in trace.pots.returned)
    ++ (pot_lines 1 (pots_in trace.pots) (shares_in trace.shares) trace.setup.rakes.rakes
    ++ (codes "finish" ++ (spaced (amounts_in trace.finish) ++ codes "\n")))
