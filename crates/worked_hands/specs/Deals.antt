-- The deals that the worked hands begin with.
use Rattle.std.specs.Prelude.{ℕ, List, [], ◌∷◌, codes}
use Rattle.play_event.specs.Said.{Said}
use Rattle.worked_hands.specs.Words.{deal}

-- cards for each of two seats
abbrev pub two_dealt : List ℕ → List ℕ → List Said
two_dealt first second = deal 1 first ∷ deal 2 second ∷ []

-- cards for each of three seats
abbrev pub three_dealt : List ℕ → List ℕ → List ℕ → List Said
three_dealt first second third = deal 1 first ∷ deal 2 second ∷ deal 3 third ∷ []

-- two unknown cards for each of three seats
abbrev pub unseen_twos : List Said
unseen_twos = three_dealt (codes "????") (codes "????") (codes "????")

-- four unknown cards for each of three seats
abbrev pub unseen_fours : List Said
unseen_fours = three_dealt (codes "????????") (codes "????????") (codes "????????")

-- five unknown cards for each of three seats
abbrev pub unseen_fives : List Said
unseen_fives = three_dealt (codes "??????????") (codes "??????????") (codes "??????????")

-- two known cards for each of two seats
abbrev pub heads_up_deals : List Said
heads_up_deals = two_dealt (codes "9s8h") (codes "KdTc")

-- the first cards of two seats of stud; p1 has the lower up-card, by its suit
abbrev pub two_deuces : List Said
two_deuces = two_dealt (codes "????2c") (codes "????2d")

-- the first cards of two seats of razz, p1 with a king and p2 with a deuce
abbrev pub king_and_deuce : List Said
king_and_deuce = two_dealt (codes "????Kc") (codes "????2d")

-- the same with an ace in place of the king
abbrev pub ace_and_deuce : List Said
ace_and_deuce = two_dealt (codes "????Ac") (codes "????2d")

-- the first cards of two seats of stud, p2 without a known up-card
abbrev pub deuce_and_unknown : List Said
deuce_and_unknown = two_dealt (codes "????2c") (codes "??????")

-- thirty cards for six seats of triple draw
abbrev pub six_fives : List Said
six_fives =
    deal 1 (codes "2c3c4c5c7c") ∷ deal 2 (codes "??????????") ∷ deal 3 (codes "??????????")
    ∷ deal 4 (codes "??????????") ∷ deal 5 (codes "??????????") ∷ deal 6 (codes "??????????") ∷ []
