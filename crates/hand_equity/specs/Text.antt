-- The printed lines of an equity.
use Rattle.std.specs.Prelude.{ℕ, Bool, List, [], ◌∷◌, ◌++◌, filter, codes, if◌then◌else◌}
use Rattle.std.specs.Fmt.{decimal}
use Rattle.chip_ledger.specs.Seat.{seats_of}
use Rattle.hand_canon.specs.declared.trace.Trace.{Trace}
use Rattle.play_event.specs.Games.{game_of}
use Rattle.hand_equity.specs.declared.row.EquityRow.{EquityRow}
use Rattle.hand_equity.specs.Street.{is_live_on}
use Rattle.hand_equity.specs.Tallies.{count_for}

-- the line of all completions
abbrev pub total_line : ℕ → ℕ → EquityRow → List ℕ
total_line hand street row =
    codes "hand " ++ (decimal hand
    ++ (codes " street " ++ (decimal street
    ++ (codes " total " ++ (decimal row.total
    ++ (codes " shared " ++ (decimal row.shared
    ++ codes "\n")))))))

-- the line of a seat, which begins with the letter p: what it wins and ties, after a label
abbrev pub seat_line : List ℕ → List ℕ → List ℕ → ℕ → List ℕ
seat_line label wins ties seat =
    112 ∷ decimal seat ++ (label ++ (decimal (count_for wins seat)
    ++ (codes " ties " ++ (decimal (count_for ties seat)
    ++ codes "\n"))))

-- the lines of seats
abbrev pub seat_lines : List ℕ → List ℕ → List ℕ → List ℕ → List ℕ
seat_lines label wins ties [] = []
seat_lines label wins ties (seat ∷ others) =
    seat_line label wins ties seat ++ seat_lines label wins ties others

-- the line of low hands
abbrev pub low_line : EquityRow → List ℕ
low_line row =
    codes "low none " ++ (decimal row.low_none
    ++ (codes " shared " ++ (decimal row.low_shared
    ++ codes "\n")))

-- the lines of low hands, in a game that pays them
abbrev pub low_lines : Bool → EquityRow → List ℕ → List ℕ
low_lines split row seats =
    if split
    then low_line row ++ seat_lines (codes " low wins ") row.low_wins row.low_ties seats
    else []

-- the seats that are live when a street begins
abbrev pub seats_on : Trace → ℕ → List ℕ
seats_on trace street = filter (is_live_on trace street) (seats_of trace.setup.stacks.seats)

-- the text of the equity of a hand with this number on a street
abbrev pub equity_said : ℕ → ℕ → Trace → EquityRow → List ℕ
equity_said hand street trace row =
    total_line hand street row
    ++ (seat_lines (codes " wins ") row.wins row.ties (seats_on trace street)
    ++ low_lines (game_of trace.setup.code).split row (seats_on trace street))
