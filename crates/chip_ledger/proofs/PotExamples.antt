-- Pots of small hands, as the definition computes them.
use Rattle.std.specs.Prelude.{◌≡◌, ℕ, true, false, List, [], ◌∷◌, map, refl}
use Rattle.chip_ledger.specs.Pots.{Stake, PlainPot, counted, returned, pots_of, after_return, levels, layers, pots_at}

abbrev in_hand : ℕ → ℕ → Stake
in_hand seat chips = record { seat = seat; chips = chips; live = true }

abbrev folded : ℕ → ℕ → Stake
folded seat chips = record { seat = seat; chips = chips; live = false }

abbrev pot : ℕ → List ℕ → PlainPot
pot chips eligible = record { chips = chips; eligible = eligible }

-- what the stakes and the dead chips make: the pots, and what each seat gets back
record Makes (stakes : List Stake) (dead : ℕ) (pots : List PlainPot) (back : List ℕ) : Type 0 where
  made : pots_of stakes dead ≡ pots
  given_back : map (returned stakes) stakes ≡ back

three_levels : Makes (in_hand 1 100 ∷ in_hand 2 300 ∷ in_hand 3 500 ∷ [])
    0
    (pot 300 (1 ∷ 2 ∷ 3 ∷ []) ∷ pot 400 (2 ∷ 3 ∷ []) ∷ [])
    (0 ∷ 0 ∷ 200 ∷ [])
unfolding pots_of after_return levels layers pots_at
three_levels = record { made = refl; given_back = refl }

all_in_on_the_turn : Makes
    (in_hand 1 (counted false 1125600 500)
    ∷ folded 2 (counted false 2500 500)
    ∷ in_hand 3 (counted false 553500 500)
    ∷ [])
    0
    (pot 1109500 (1 ∷ 3 ∷ []) ∷ [])
    (572100 ∷ 0 ∷ 0 ∷ [])
unfolding pots_of after_return levels layers pots_at
all_in_on_the_turn = record { made = refl; given_back = refl }

two_folds_and_dead_antes : Makes
    (folded 1 (counted false 1 0) ∷ in_hand 2 (counted true 4 2) ∷ folded 3 0 ∷ [])
    2
    (pot 4 (2 ∷ []) ∷ [])
    (0 ∷ 1 ∷ 0 ∷ [])
unfolding pots_of after_return levels layers pots_at
two_folds_and_dead_antes = record { made = refl; given_back = refl }

folded_seat_put_most : Makes (in_hand 1 300 ∷ folded 2 500 ∷ in_hand 3 200 ∷ [])
    0
    (pot 600 (1 ∷ 3 ∷ []) ∷ pot 400 (1 ∷ []) ∷ [])
    (0 ∷ 0 ∷ 0 ∷ [])
unfolding pots_of after_return levels layers pots_at
folded_seat_put_most = record { made = refl; given_back = refl }

middle_seat_folded : Makes (in_hand 1 100 ∷ folded 2 200 ∷ in_hand 3 300 ∷ [])
    0
    (pot 300 (1 ∷ 3 ∷ []) ∷ pot 200 (3 ∷ []) ∷ [])
    (0 ∷ 0 ∷ 100 ∷ [])
unfolding pots_of after_return levels layers pots_at
middle_seat_folded = record { made = refl; given_back = refl }

all_equal : Makes (in_hand 1 50 ∷ in_hand 2 50 ∷ in_hand 3 50 ∷ [])
    0
    (pot 150 (1 ∷ 2 ∷ 3 ∷ []) ∷ [])
    (0 ∷ 0 ∷ 0 ∷ [])
unfolding pots_of after_return levels layers pots_at
all_equal = record { made = refl; given_back = refl }

one_put_its_dead_ante_alone : Makes (in_hand 1 0 ∷ in_hand 2 4 ∷ in_hand 3 4 ∷ [])
    6
    (pot 6 (1 ∷ 2 ∷ 3 ∷ []) ∷ pot 8 (2 ∷ 3 ∷ []) ∷ [])
    (0 ∷ 0 ∷ 0 ∷ [])
unfolding pots_of after_return levels layers pots_at
one_put_its_dead_ante_alone = record { made = refl; given_back = refl }

no_level : Makes (in_hand 1 0 ∷ folded 2 1 ∷ folded 3 2 ∷ [])
    3
    (pot 6 (1 ∷ []) ∷ [])
    (0 ∷ 0 ∷ 0 ∷ [])
unfolding pots_of after_return levels layers pots_at
no_level = record { made = refl; given_back = refl }

no_chips : Makes (in_hand 1 0 ∷ in_hand 2 0 ∷ []) 0 [] (0 ∷ 0 ∷ [])
unfolding pots_of after_return levels layers pots_at
no_chips = record { made = refl; given_back = refl }

ten_levels : Makes
    (in_hand 1 1
    ∷ in_hand 2 2
    ∷ in_hand 3 3
    ∷ in_hand 4 4
    ∷ in_hand 5 5
    ∷ in_hand 6 6
    ∷ in_hand 7 7
    ∷ in_hand 8 8
    ∷ in_hand 9 9
    ∷ in_hand 10 10
    ∷ [])
    10
    (pot 20 (1 ∷ 2 ∷ 3 ∷ 4 ∷ 5 ∷ 6 ∷ 7 ∷ 8 ∷ 9 ∷ 10 ∷ [])
    ∷ pot 9 (2 ∷ 3 ∷ 4 ∷ 5 ∷ 6 ∷ 7 ∷ 8 ∷ 9 ∷ 10 ∷ [])
    ∷ pot 8 (3 ∷ 4 ∷ 5 ∷ 6 ∷ 7 ∷ 8 ∷ 9 ∷ 10 ∷ [])
    ∷ pot 7 (4 ∷ 5 ∷ 6 ∷ 7 ∷ 8 ∷ 9 ∷ 10 ∷ [])
    ∷ pot 6 (5 ∷ 6 ∷ 7 ∷ 8 ∷ 9 ∷ 10 ∷ [])
    ∷ pot 5 (6 ∷ 7 ∷ 8 ∷ 9 ∷ 10 ∷ [])
    ∷ pot 4 (7 ∷ 8 ∷ 9 ∷ 10 ∷ [])
    ∷ pot 3 (8 ∷ 9 ∷ 10 ∷ [])
    ∷ pot 2 (9 ∷ 10 ∷ [])
    ∷ [])
    (0 ∷ 0 ∷ 0 ∷ 0 ∷ 0 ∷ 0 ∷ 0 ∷ 0 ∷ 0 ∷ 1 ∷ [])
unfolding pots_of after_return levels layers pots_at
ten_levels = record { made = refl; given_back = refl }
