-- Scripts about the end of hands: shows, mucks, and showdowns.
use Rattle.std.specs.Prelude.{ℕ, List, [], ◌∷◌, ◌++◌, codes}
use Rattle.play_event.specs.Said.{Said}
use Rattle.worked_hands.specs.Words.{deal, board, fold, call, raise, bring_in, show, muck}
use Rattle.worked_hands.specs.Deals.{two_dealt, three_dealt, unseen_twos, heads_up_deals}

-- all-in on the turn, and the shows before the river
abbrev pub early_shows : List Said
early_shows =
    three_dealt (codes "Ac2d") (codes "????") (codes "7h6h")
    ++ raise 3 7000 ∷ raise 1 23000 ∷ fold 2 ∷ call 3
    ∷ board (codes "Jc3d5c") ∷ raise 1 35000 ∷ call 3
    ∷ board (codes "4h") ∷ raise 1 90000 ∷ raise 3 232600 ∷ raise 1 1067100 ∷ call 3
    ∷ show 1 (codes "Ac2d") ∷ show 3 (codes "7h6h") ∷ board (codes "Jh") ∷ []

-- a hand that is called and checked to the end, with p2's cards
abbrev pub checked : List ℕ → List Said
checked cards =
    three_dealt (codes "????") cards (codes "Ac2h") ++ call 3 ∷ fold 1 ∷ call 2
    ∷ board (codes "KhKdQs") ∷ call 2 ∷ call 3 ∷ board (codes "Qc") ∷ call 2 ∷ call 3
    ∷ board (codes "Js") ∷ call 2 ∷ call 3 ∷ []

-- the same; p2 holds the ace of spades and the deuce of diamonds
abbrev pub checked_down : List Said
checked_down = checked (codes "As2d")

-- a hand that is checked down; p2's cards are unknown, and p2 shows the king that is on the board
abbrev pub board_card_shown : List Said
board_card_shown = checked (codes "????") ++ show 2 (codes "AsKh") ∷ []

-- the same, but p2's deuce is known, and p2 does not name it
abbrev pub deuce_left_out : List Said
deuce_left_out = checked (codes "??2d") ++ show 2 (codes "KhTh") ∷ []

-- p2 shows its known deuce and names its other card
abbrev pub named_at_showdown : List Said
named_at_showdown = checked (codes "??2d") ++ show 2 (codes "As2d") ∷ []

-- the cards of that hand, by street and owner
abbrev pub all_cards_shown : List ℕ
all_cards_shown = codes "????As2dAc2hKhKdQsQcJs"

-- p2 shows another hand than the one that is known
abbrev pub other_hand_shown : List Said
other_hand_shown = checked_down ++ show 2 (codes "AsTh") ∷ []

-- p2 shows, and then mucks
abbrev pub shown_and_mucked : List Said
shown_and_mucked = checked_down ++ show 2 (codes "As2d") ∷ muck 2 ∷ []

-- p2 mucks cards that are known
abbrev pub known_mucked : List Said
known_mucked = checked_down ++ muck 2 ∷ []

-- p3 raises to 6, and the others fold
abbrev pub won_unseen : List Said
won_unseen = unseen_twos ++ raise 3 6 ∷ fold 1 ∷ fold 2 ∷ []

-- the last live seat shows
abbrev pub winner_shows : List Said
winner_shows = won_unseen ++ show 3 (codes "AhKh") ∷ []

-- the last live seat mucks
abbrev pub winner_mucks : List Said
winner_mucks = won_unseen ++ muck 3 ∷ []

-- the last live seat shows, and then mucks
abbrev pub winner_does_both : List Said
winner_does_both = winner_shows ++ muck 3 ∷ []

-- a seat that folded mucks
abbrev pub folder_mucks : List Said
folder_mucks = won_unseen ++ muck 1 ∷ []

-- p2 goes all-in before the flop
abbrev pub all_in : List Said
all_in = heads_up_deals ++ raise 2 20000 ∷ []

-- p1 shows before it calls
abbrev pub shown_uncalled : List Said
shown_uncalled = all_in ++ show 1 (codes "9s8h") ∷ []

-- p1 calls, and shows before the flop
abbrev pub shown_called : List Said
shown_called = all_in ++ call 1 ∷ show 1 (codes "9s8h") ∷ []

-- p1 calls, and mucks before the flop
abbrev pub mucked_called : List Said
mucked_called = all_in ++ call 1 ∷ muck 1 ∷ []

-- p1 of stud is all-in by its bring-in, both are dealt all cards, this is p1's second up-card, and
-- p1 shows its three down-cards
abbrev pub three_shown : List ℕ → List Said
three_shown second =
    two_dealt (codes "????2c") (codes "????3d") ++ bring_in 1 ∷ call 2
    ∷ deal 1 second ∷ deal 2 (codes "??") ∷ deal 1 (codes "6h") ∷ deal 2 (codes "??")
    ∷ deal 1 (codes "7h") ∷ deal 2 (codes "??") ∷ deal 1 (codes "??") ∷ deal 2 (codes "??")
    ∷ show 1 (codes "AsKsQs") ∷ []
