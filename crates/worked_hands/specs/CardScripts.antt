-- Scripts about cards: who brings in and opens by them, deals, and draws.
use Rattle.std.specs.Prelude.{ℕ, List, [], ◌∷◌, ◌++◌, codes}
use Rattle.play_event.specs.Said.{Said}
use Rattle.worked_hands.specs.Words.{deal, board, fold, call, raise, bring_in, calls, discard, stand_pat, show}
use Rattle.worked_hands.specs.Deals.{two_dealt, three_dealt, unseen_twos, unseen_fives, heads_up_deals, two_deuces, king_and_deuce, six_fives}

-- a seat brings in after these deals
abbrev pub brought_in : List Said → ℕ → List Said
brought_in deals seat = deals ++ bring_in seat ∷ []

-- p2 has no known up-card, and p1, whose ante took all its chips, brings in
abbrev pub without_chips : List Said
without_chips = brought_in (three_dealt (codes "????2c") (codes "??????") (codes "????4h")) 1

-- p1 brings in with a deuce of clubs, p2 calls, both get a second up-card, and a seat checks
abbrev pub opened_by : ℕ → List ℕ → List ℕ → List Said
opened_by seat first second =
    two_deuces ++ bring_in 1 ∷ call 2 ∷ deal 1 first ∷ deal 2 second ∷ call seat ∷ []

-- razz: p1 brings in with a king, p2 calls with a deuce, they get a nine and a trey, and p2 checks
abbrev pub razz_opened : List Said
razz_opened =
    king_and_deuce ++ bring_in 1 ∷ call 2 ∷ deal 1 (codes "9h") ∷ deal 2 (codes "3h") ∷ call 2 ∷ []

-- cards for one seat only
abbrev pub dealt : ℕ → List ℕ → List Said
dealt seat cards = deal seat cards ∷ []

-- p1 is dealt its cards twice
abbrev pub dealt_again : List Said
dealt_again = dealt 1 (codes "????") ++ dealt 1 (codes "????")

-- both seats are dealt the ace of hearts
abbrev pub ace_dealt_twice : List Said
ace_dealt_twice = two_dealt (codes "AhKh") (codes "Ah")

-- p3 folds before it has cards
abbrev pub fold_before_deals : List Said
fold_before_deals = dealt 1 (codes "????") ++ fold 3 ∷ []

-- the flop comes before the betting
abbrev pub early_flop : List Said
early_flop = unseen_twos ++ board (codes "KhKdQs") ∷ []

-- both seats called the blinds, and the board gets these cards
abbrev pub flop_of : List ℕ → List Said
flop_of cards = heads_up_deals ++ calls ∷ calls ∷ board cards ∷ []

-- both seats called the blinds, and p1 gets a third card
abbrev pub third_card : List Said
third_card = heads_up_deals ++ calls ∷ calls ∷ deal 1 (codes "??") ∷ []

-- six calls after thirty cards
abbrev pub thirty_cards : List Said
thirty_cards = six_fives ++ call 3 ∷ call 4 ∷ call 5 ∷ call 6 ∷ call 1 ∷ call 2 ∷ []

-- a seat discards first
abbrev pub discarded : ℕ → List ℕ → List Said
discarded seat cards = thirty_cards ++ discard seat cards ∷ []

-- p1 stands pat, and is dealt a card
abbrev pub dealt_after_pat : List Said
dealt_after_pat = thirty_cards ++ stand_pat 1 ∷ deal 1 (codes "??") ∷ []

-- in the first draw each seat discards three cards, p1 the two of clubs among them
abbrev pub first_draw : List Said
first_draw =
    discard 1 (codes "2c3c4c") ∷ discard 2 (codes "??????") ∷ discard 3 (codes "??????")
    ∷ discard 4 (codes "??????") ∷ discard 5 (codes "??????") ∷ discard 6 (codes "??????")
    ∷ deal 1 (codes "??????") ∷ deal 2 (codes "??????") ∷ deal 3 (codes "??????")
    ∷ deal 4 (codes "??????") ∷ deal 5 (codes "??????") ∷ deal 6 (codes "??????")
    ∷ call 1 ∷ call 2 ∷ call 3 ∷ call 4 ∷ call 5 ∷ call 6 ∷ []

-- in the second draw p1 stands pat, and p2 discards and is dealt the two of clubs
abbrev pub second_draw : List ℕ → List Said
second_draw cards =
    thirty_cards ++ (first_draw ++ stand_pat 1 ∷ discard 2 cards ∷ deal 2 (codes "2c") ∷ [])

-- p3 raises to 10, which puts p1 all-in, and p1 draws first
abbrev pub all_in_draws : List Said
all_in_draws = unseen_fives ++ raise 3 10 ∷ call 1 ∷ call 2 ∷ stand_pat 1 ∷ []

-- p1 keeps the five and the seven of clubs in a draw, and shows only these two
abbrev pub kept_cards_shown : List Said
kept_cards_shown =
    two_dealt (codes "2c3c4c5c7c") (codes "??????????") ++ call 2 ∷ call 1
    ∷ discard 1 (codes "2c3c4c") ∷ stand_pat 2 ∷ deal 1 (codes "8d9dTd") ∷ call 1 ∷ call 2
    ∷ show 1 (codes "5c7c") ∷ []

-- the cards of two seats, in pieces and out of order
abbrev pub mixed_deals : List Said
mixed_deals = deal 2 (codes "Kd") ∷ deal 1 (codes "9s8h") ∷ deal 2 (codes "Tc") ∷ []
