-- Scripts about betting.
use Rattle.std.specs.Prelude.{ℕ, List, [], ◌∷◌, ◌++◌, codes}
use Rattle.play_event.specs.Said.{Said}
use Rattle.worked_hands.specs.Words.{board, fold, call, call_adding, raise, bring_in, folds, calls, raises, raises_by, raises_to}
use Rattle.worked_hands.specs.Deals.{three_dealt, unseen_twos, unseen_fours, heads_up_deals, two_deuces}

-- p3 raises, after deals to three seats
abbrev pub raised_to : ℕ → List Said
raised_to target = three_dealt (codes "????") (codes "????") (codes "AhKh") ++ raise 3 target ∷ []

-- p3 raises to 6, and p1 folds
abbrev pub one_fold : List Said
one_fold = raised_to 6 ++ fold 1 ∷ []

-- and p2 folds too
abbrev pub two_folds : List Said
two_folds = one_fold ++ fold 2 ∷ []

-- p3 raises to 6, and p2 folds before p1
abbrev pub early_fold : List Said
early_fold = raised_to 6 ++ fold 2 ∷ []

-- p3 folds after the others
abbrev pub three_folds : List Said
three_folds = two_folds ++ fold 3 ∷ []

-- p3 and p1 fold to the greater blind
abbrev pub folded_to_blind : List Said
folded_to_blind = unseen_twos ++ fold 3 ∷ fold 1 ∷ []

-- the first of two seats to act raises
abbrev pub opened_to : ℕ → List Said
opened_to target = heads_up_deals ++ raises_to target ∷ []

-- p3 raises to 10, and p1 goes all-in to 14
abbrev pub short_all_in : List Said
short_all_in = unseen_twos ++ raise 3 10 ∷ raise 1 14 ∷ []

-- p2 calls the short all-in, and p3 raises to 40
abbrev pub raised_again : List Said
raised_again = short_all_in ++ call 2 ∷ raise 3 40 ∷ []

-- and p2 folds
abbrev pub raised_and_won : List Said
raised_and_won = raised_again ++ fold 2 ∷ []

-- p2 raises over the short all-in
abbrev pub over_short : ℕ → List Said
over_short target = short_all_in ++ raises_to target ∷ []

-- p3 is all-in for a raise to 3, over a current bet of 2, and p1 raises
abbrev pub over_three : ℕ → List Said
over_three target = unseen_twos ++ raise 3 3 ∷ raise 1 target ∷ []

-- a raise to 1000 on the first street, and a bet of 100 on the second
abbrev pub small_bet_later : List Said
small_bet_later =
    heads_up_deals ++ raise 2 1000 ∷ call 1 ∷ board (codes "AhQh2s") ∷ raise 1 100 ∷ []

-- p3 raises in pot limit
abbrev pub pot_raised_to : ℕ → List Said
pot_raised_to target = unseen_fours ++ raise 3 target ∷ []

-- p1 goes all-in to 9 over a raise to 7, p2 calls, and p3 raises to 20
abbrev pub pot_raised_again : List Said
pot_raised_again = pot_raised_to 7 ++ raise 1 9 ∷ call 2 ∷ raise 3 20 ∷ []

-- p3 raises to 20 in fixed limit, p1 goes all-in to 25, half a raise unit more, p2 calls, and p3
-- raises to 30
abbrev pub half_bet_more : List Said
half_bet_more = unseen_twos ++ raise 3 20 ∷ raise 1 25 ∷ call 2 ∷ raise 3 30 ∷ []

-- one raise by the raise unit
abbrev pub one_unit : List Said
one_unit = heads_up_deals ++ raises ∷ []

-- two raises by the raise unit, and a call
abbrev pub two_units : List Said
two_units = one_unit ++ raises ∷ calls ∷ []

-- four raises by the raise unit
abbrev pub four_units : List Said
four_units = one_unit ++ raises ∷ raises ∷ raises ∷ []

-- two raises by the raise unit on the second street
abbrev pub two_units_later : List Said
two_units_later = heads_up_deals ++ calls ∷ calls ∷ board (codes "AhQh2s") ∷ raises ∷ raises ∷ []

-- p1 brings in, and p2 raises by the raise unit
abbrev pub unit_over_bring_in : List Said
unit_over_bring_in = two_deuces ++ bring_in 1 ∷ raises ∷ []

-- p1 brings in 3, above the small bet of 2; p2 goes all-in to 4, and p3 raises to the bring-in plus
-- one raise unit
abbrev pub full_bring_in : List Said
full_bring_in =
    three_dealt (codes "????2c") (codes "????3d") (codes "????4h") ++ bring_in 1 ∷ raise 2 4
    ∷ raise 3 5 ∷ []

-- p3 raises to 10 over blinds that are below the raise unit, and p1 raises to 14
abbrev pub over_low_blinds : List Said
over_low_blinds = unseen_twos ++ raise 3 10 ∷ raise 1 14 ∷ []

-- a call of the blind, and a fold with nothing to call
abbrev pub free_fold : List Said
free_fold = heads_up_deals ++ calls ∷ folds ∷ []

-- p2 raises by 250, and p1, who has 200 to call, calls and is stated to add this many chips
abbrev pub call_stating : ℕ → List Said
call_stating stated = heads_up_deals ++ raises_by 250 ∷ call_adding 1 stated ∷ []

-- p3 raises to 20, and p1, who has 19 to call, calls with the last 13 chips and is stated to add
-- this many
abbrev pub short_call : ℕ → List Said
short_call stated = unseen_twos ++ raise 3 20 ∷ call_adding 1 stated ∷ []

-- two calls, a board of three cards, and a bet to 300 counted over the whole hand
abbrev pub bet_by_total : List Said
bet_by_total = heads_up_deals ++ calls ∷ calls ∷ board (codes "AhQh2s") ∷ raises_to 300 ∷ []
