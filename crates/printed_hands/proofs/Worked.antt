-- Reports that are written out.
use Rattle.std.proofs.Common.{◌≡◌, ℕ, List, [], ◌∷◌, ◌++◌, codes, refl}
use Rattle.std.specs.Fmt.{digits}
use Rattle.printed_hands.specs.Report.{Hand, Seated, report_on}

abbrev pub seat : List ℕ → ℕ → ℕ → Seated
seat name started finished = record { name = name; started = started; finished = finished }

abbrev pub hand : List ℕ → ℕ → List Seated → Hand
hand game pots seats = record { game = game; pots = pots; seats = seats }

-- three seats without names: two fold to a raise, and each loses its blind
abbrev pub blinds_won : Hand
blinds_won = hand (codes "NT") 5 (seat (codes "p1") 100 99 ∷ seat (codes "p2") 100 98 ∷ seat (codes "p3") 100 103 ∷ [])

-- a hand of another game, in which two seats have one name
abbrev pub one_name_twice : Hand
one_name_twice = hand (codes "FT") 40 (seat (codes "Zoe") 100 110 ∷ seat (codes "p2") 50 40 ∷ seat (codes "Zoe") 30 30 ∷ [])

-- no hands
pub of_nothing : report_on [] ≡ codes "total        0                   0\n"
unfolding digits
of_nothing = refl

-- one hand
pub of_one_hand : report_on (blinds_won ∷ [])
    ≡ codes "NT           1                   5\n"
    ++ (codes "total        1                   5\n"
    ++ (codes "                  -1       1  p1\n"
    ++ (codes "                  -2       1  p2\n"
    ++ codes "                   3       1  p3\n")))
unfolding digits
of_one_hand = refl

-- two games: their lines are in the order of the table, and names in the order in which they are
-- seen
pub of_two_hands : report_on (blinds_won ∷ one_name_twice ∷ [])
    ≡ codes "FT           1                  40\n"
    ++ (codes "NT           1                   5\n"
    ++ (codes "total        2                  45\n"
    ++ (codes "                  -1       1  p1\n"
    ++ (codes "                 -12       2  p2\n"
    ++ (codes "                   3       1  p3\n"
    ++ codes "                  10       1  Zoe\n")))))
unfolding digits
of_two_hands = refl
