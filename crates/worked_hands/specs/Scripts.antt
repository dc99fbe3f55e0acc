-- Scripts in another order, in other pieces and with other words than the canonical ones.
use Rattle.std.specs.Prelude.{List, [], ◌∷◌, ◌++◌, codes}
use Rattle.play_event.specs.Said.{Said}
use Rattle.worked_hands.specs.Words.{deal, board, fold, call, raise, bring_in, discard, show, muck, stand_pat, folds, calls, raises, raises_to}
use Rattle.worked_hands.specs.CardScripts.{first_draw, thirty_cards}

-- pot-limit Omaha: deals in pieces and out of order, cards that become known by the show, and a
-- known hand that mucks
abbrev pub omaha_hand : List Said
omaha_hand =
    deal 3 (codes "??????Kd") ∷ deal 1 (codes "AcAd") ∷ deal 2 (codes "????????")
    ∷ deal 1 (codes "2h3h")
    ∷ raise 3 6 ∷ call 1 ∷ fold 2
    ∷ board (codes "Kh7c") ∷ board (codes "2c") ∷ call 1 ∷ raise 3 10 ∷ call 1
    ∷ board (codes "4d") ∷ call 1 ∷ call 3 ∷ board (codes "Js") ∷ call 1 ∷ call 3
    ∷ show 3 (codes "8hKs9hKd") ∷ muck 1 ∷ []

-- stud: deals out of order, and a show of the down-cards alone
abbrev pub stud_hand : List Said
stud_hand =
    deal 2 (codes "????") ∷ deal 1 (codes "????2c") ∷ deal 2 (codes "2d") ∷ bring_in 1 ∷ raise 2 2
    ∷ call 1
    ∷ deal 2 (codes "3d") ∷ deal 1 (codes "Kc") ∷ call 1 ∷ call 2
    ∷ deal 1 (codes "4h") ∷ deal 2 (codes "4s") ∷ call 1 ∷ raise 2 4 ∷ call 1
    ∷ deal 2 (codes "9s") ∷ deal 1 (codes "9h") ∷ call 1 ∷ call 2
    ∷ deal 1 (codes "??") ∷ deal 2 (codes "7c") ∷ call 1 ∷ call 2
    ∷ show 2 (codes "6c7c5c") ∷ muck 1 ∷ []

-- single draw: an all-in, shows before and between the draws, cards that become known by discards
-- and shows, and a seat that showed and was dealt an unknown card
abbrev pub mixed_draw : List Said
mixed_draw =
    deal 3 (codes "????") ∷ deal 1 (codes "2c??4c") ∷ deal 3 (codes "????Th")
    ∷ deal 1 (codes "5c??") ∷ deal 2 (codes "2h3h4h5h7h")
    ∷ raises_to 40 ∷ calls ∷ calls
    ∷ show 2 (codes "7h5h4h3h2h")
    ∷ discard 1 (codes "9c4c??") ∷ deal 1 (codes "6d") ∷ discard 2 (codes "3h")
    ∷ deal 2 (codes "??") ∷ deal 1 (codes "7d") ∷ discard 3 (codes "??Th")
    ∷ deal 1 (codes "8d") ∷ deal 3 (codes "JdQd") ∷ show 3 (codes "9hTsJsJdQd") ∷ []

-- single draw: a seat folds before the draw and another one after it, so that there is no showdown
abbrev pub folded_draw : List Said
folded_draw =
    deal 3 (codes "??????????") ∷ deal 1 (codes "2c3c4c5c7c") ∷ deal 2 (codes "??????????")
    ∷ raise 3 4 ∷ call 1 ∷ fold 2
    ∷ discard 1 (codes "7c") ∷ deal 1 (codes "8d") ∷ discard 3 (codes "????")
    ∷ deal 3 (codes "????") ∷ raise 1 10 ∷ fold 3 ∷ []

-- triple draw to its end: the two of clubs, which p1 discarded, is dealt to p2 once the deck has
-- run out
abbrev pub past_the_deck : List Said
past_the_deck =
    thirty_cards ++ (first_draw ++ (
    stand_pat 1 ∷ discard 2 (codes "??????????") ∷ deal 2 (codes "????") ∷ stand_pat 3
    ∷ deal 2 (codes "2c") ∷ stand_pat 4 ∷ stand_pat 5 ∷ stand_pat 6 ∷ deal 2 (codes "????")
    ∷ calls ∷ calls ∷ calls ∷ calls ∷ calls ∷ calls
    ∷ stand_pat 1 ∷ stand_pat 2 ∷ discard 3 (codes "Kc") ∷ stand_pat 4 ∷ deal 3 (codes "??")
    ∷ stand_pat 5 ∷ stand_pat 6
    ∷ calls ∷ calls ∷ calls ∷ calls ∷ calls ∷ calls ∷ show 1 (codes "8d7c9d5cTd") ∷ muck 5 ∷ []))

-- badugi with its three draws: a discard that names a card dealt face down, and shows out of order
abbrev pub badugi_hand : List Said
badugi_hand =
    deal 1 (codes "Ac2d3h3s") ∷ deal 2 (codes "????????") ∷ deal 3 (codes "KsKdKhKc") ∷ call 3
    ∷ call 1 ∷ call 2
    ∷ discard 1 (codes "3s") ∷ discard 2 (codes "??Qh") ∷ discard 3 (codes "KdKhKc")
    ∷ deal 3 (codes "4d5h") ∷ deal 1 (codes "4s") ∷ deal 2 (codes "????") ∷ deal 3 (codes "6c")
    ∷ raises ∷ calls ∷ folds
    ∷ stand_pat 1 ∷ discard 2 (codes "??") ∷ deal 2 (codes "9c") ∷ raises ∷ calls
    ∷ stand_pat 1 ∷ stand_pat 2 ∷ calls ∷ calls
    ∷ show 2 (codes "9cTh7d8s") ∷ show 1 (codes "4s3h2dAc") ∷ []

-- short deck: all-in before the flop, and shows before and after the river
abbrev pub short_deck_hand : List Said
short_deck_hand =
    deal 3 (codes "6c") ∷ deal 1 (codes "????") ∷ deal 2 (codes "AsKs") ∷ deal 3 (codes "7h")
    ∷ call 3 ∷ call 1 ∷ raise 2 100 ∷ fold 3 ∷ call 1
    ∷ board (codes "KhKdQs") ∷ show 2 (codes "AsKs") ∷ board (codes "Qc") ∷ board (codes "Js")
    ∷ show 1 (codes "JhJd") ∷ []

-- a match: after a short all-in p3 raises again, which is legal only under rules by which every
-- raise reopens the betting
abbrev pub reopened_hand : List Said
reopened_hand =
    deal 1 (codes "????") ∷ deal 2 (codes "????") ∷ deal 3 (codes "????")
    ∷ raise 3 10 ∷ raise 1 14 ∷ call 2 ∷ raise 3 50 ∷ fold 2
    ∷ board (codes "2c3c4d") ∷ board (codes "9h") ∷ board (codes "Ts") ∷ show 3 (codes "AhAd")
    ∷ muck 1 ∷ []

-- a match of fixed limit with its caps: three raises on the first street and four on the second
abbrev pub capped_hand : List Said
capped_hand =
    deal 2 (codes "KdTc") ∷ deal 1 (codes "9s8h") ∷ raises ∷ raises ∷ raises ∷ calls
    ∷ board (codes "8c8d3d") ∷ raises ∷ raises ∷ raises ∷ raises ∷ calls
    ∷ board (codes "3s") ∷ calls ∷ calls ∷ board (codes "3h") ∷ raises ∷ calls
    ∷ show 2 (codes "KdTc") ∷ show 1 (codes "9s8h") ∷ []
