-- The setups of the worked hands, and setups that are not valid.
use Rattle.std.proofs.Common.{refl}
use Rattle.std.specs.Prelude.{ℕ, true, false, [], ◌∷◌, replicate}
use Rattle.play_event.specs.declared.code.Code.TheVariants as games
use Rattle.play_event.specs.declared.setup.Setup.{Setup}
use Rattle.worked_hands.specs.Words.{hand_of}
use Rattle.chip_ledger.specs.declared.numbers.TheConstants.{MOST_CHIPS}

-- three seats with stacks of 100 and the blinds 1 and 2, in no-limit hold'em with a least bet of 2
abbrev pub no_limit : Setup
no_limit =
    hand_of games.NT false 0 0 0 2 (100 ∷ 100 ∷ 100 ∷ []) (0 ∷ 0 ∷ 0 ∷ []) (1 ∷ 2 ∷ 0 ∷ []) refl
    refl refl

-- the same with stacks of 10^12
abbrev pub deep_stacks : Setup
deep_stacks =
    hand_of games.NT false 0 0 0 2 (MOST_CHIPS ∷ MOST_CHIPS ∷ MOST_CHIPS ∷ []) (0 ∷ 0 ∷ 0 ∷ [])
    (1 ∷ 2 ∷ 0 ∷ []) refl refl refl

-- the same with this rake of the lowest pot
abbrev pub raked : ℕ → Setup
raked rake = record no_limit { rakes = record { rakes = rake ∷ replicate 10 0; full = refl } }

-- the first one, but p1 has 14 chips
abbrev pub first_short : Setup
first_short =
    hand_of games.NT false 0 0 0 2 (14 ∷ 100 ∷ 100 ∷ []) (0 ∷ 0 ∷ 0 ∷ []) (1 ∷ 2 ∷ 0 ∷ []) refl refl
    refl

-- the same, but p3 has 3 chips
abbrev pub third_short : Setup
third_short =
    hand_of games.NT false 0 0 0 2 (100 ∷ 100 ∷ 3 ∷ []) (0 ∷ 0 ∷ 0 ∷ []) (1 ∷ 2 ∷ 0 ∷ []) refl refl
    refl

-- the same with a dead ante of p2
abbrev pub one_dead_ante : Setup
one_dead_ante =
    hand_of games.NT true 0 0 0 2 (100 ∷ 100 ∷ 100 ∷ []) (0 ∷ 2 ∷ 0 ∷ []) (1 ∷ 2 ∷ 0 ∷ []) refl refl
    refl

-- no-limit hold'em with antes that are not dead
abbrev pub antes_and_blinds : Setup
antes_and_blinds =
    hand_of games.NT false 0 0 0 2000 (1125600 ∷ 2000000 ∷ 553500 ∷ []) (500 ∷ 500 ∷ 500 ∷ [])
    (1000 ∷ 2000 ∷ 0 ∷ []) refl refl refl

-- two seats of no-limit hold'em with the blinds 100 and 50
abbrev pub heads_up : Setup
heads_up =
    hand_of games.NT false 0 0 0 100 (20000 ∷ 20000 ∷ []) (0 ∷ 0 ∷ []) (100 ∷ 50 ∷ []) refl refl
    refl

-- three seats of pot-limit Omaha
abbrev pub pot_limit : Setup
pot_limit =
    hand_of games.PO false 0 0 0 2 (100 ∷ 100 ∷ 100 ∷ []) (0 ∷ 0 ∷ 0 ∷ []) (1 ∷ 2 ∷ 0 ∷ []) refl
    refl refl

-- the same, but p1 has 9 chips
abbrev pub pot_short : Setup
pot_short =
    hand_of games.PO false 0 0 0 2 (9 ∷ 100 ∷ 100 ∷ []) (0 ∷ 0 ∷ 0 ∷ []) (1 ∷ 2 ∷ 0 ∷ []) refl refl
    refl

-- two seats of fixed limit, with the bets 10 and 20
abbrev pub fixed_limit : Setup
fixed_limit =
    hand_of games.FT false 0 10 20 0 (20000 ∷ 20000 ∷ []) (0 ∷ 0 ∷ []) (10 ∷ 5 ∷ []) refl refl refl

-- the same, but p2 has 15 chips
abbrev pub limit_short : Setup
limit_short =
    hand_of games.FT false 0 10 20 0 (20000 ∷ 15 ∷ []) (0 ∷ 0 ∷ []) (10 ∷ 5 ∷ []) refl refl refl

-- three seats of fixed limit with the blinds 5 and 10; p1 has 25 chips
abbrev pub limit_three : Setup
limit_three =
    hand_of games.FT false 0 10 20 0 (25 ∷ 100 ∷ 100 ∷ []) (0 ∷ 0 ∷ 0 ∷ []) (5 ∷ 10 ∷ 0 ∷ []) refl
    refl refl

-- three seats of fixed limit with the bets 10 and 20 and lower blinds
abbrev pub low_blinds : Setup
low_blinds =
    hand_of games.FT false 0 10 20 0 (100 ∷ 100 ∷ 100 ∷ []) (0 ∷ 0 ∷ 0 ∷ []) (2 ∷ 4 ∷ 0 ∷ []) refl
    refl refl

-- two seats of stud with antes of 1, a bring-in of 1, and the bets 2 and 4
abbrev pub stud : Setup
stud = hand_of games.F7S false 1 2 4 0 (100 ∷ 100 ∷ []) (1 ∷ 1 ∷ []) (0 ∷ 0 ∷ []) refl refl refl

-- the same, but p1 has 2 chips, which the ante and the bring-in take
abbrev pub stud_short : Setup
stud_short = hand_of games.F7S false 1 2 4 0 (2 ∷ 100 ∷ []) (1 ∷ 1 ∷ []) (0 ∷ 0 ∷ []) refl refl refl

-- the same, but p1 has 1 chip, which the ante takes
abbrev pub one_able : Setup
one_able = hand_of games.F7S false 1 2 4 0 (1 ∷ 100 ∷ []) (1 ∷ 1 ∷ []) (0 ∷ 0 ∷ []) refl refl refl

-- three seats of stud; p1 is all-in by its ante
abbrev pub ante_all_in : Setup
ante_all_in =
    hand_of games.F7S false 1 2 4 0 (1 ∷ 100 ∷ 100 ∷ []) (1 ∷ 1 ∷ 1 ∷ []) (0 ∷ 0 ∷ 0 ∷ []) refl refl
    refl

-- three seats of stud with a bring-in above the small bet; p2 has 5 chips
abbrev pub stud_three : Setup
stud_three =
    hand_of games.F7S false 3 2 4 0 (100 ∷ 5 ∷ 100 ∷ []) (1 ∷ 1 ∷ 1 ∷ []) (0 ∷ 0 ∷ 0 ∷ []) refl refl
    refl

-- two seats of razz with antes of 1, a bring-in of 1, and the bets 2 and 4
abbrev pub razz : Setup
razz = hand_of games.FR false 1 2 4 0 (100 ∷ 100 ∷ []) (1 ∷ 1 ∷ []) (0 ∷ 0 ∷ []) refl refl refl

-- two seats of single draw with the blinds 2 and 1
abbrev pub single_draw : Setup
single_draw =
    hand_of games.N2L1D false 0 0 0 2 (100 ∷ 100 ∷ []) (0 ∷ 0 ∷ []) (2 ∷ 1 ∷ []) refl refl refl

-- three seats of single draw; p1 has 10 chips
abbrev pub draw_short : Setup
draw_short =
    hand_of games.N2L1D false 0 0 0 2 (10 ∷ 100 ∷ 100 ∷ []) (0 ∷ 0 ∷ 0 ∷ []) (1 ∷ 2 ∷ 0 ∷ []) refl
    refl refl

-- six seats of triple draw
abbrev pub triple_draw : Setup
triple_draw =
    hand_of games.F2L3D false 0 2 4 0 (100 ∷ 100 ∷ 100 ∷ 100 ∷ 100 ∷ 100 ∷ [])
    (0 ∷ 0 ∷ 0 ∷ 0 ∷ 0 ∷ 0 ∷ []) (1 ∷ 2 ∷ 0 ∷ 0 ∷ 0 ∷ 0 ∷ []) refl refl refl

-- not valid: with two seats, p2 has the greater blind
abbrev pub greater_second_blind : Setup
greater_second_blind =
    hand_of games.NT false 0 0 0 2 (100 ∷ 100 ∷ []) (0 ∷ 0 ∷ []) (1 ∷ 2 ∷ []) refl refl refl

-- not valid: p1 has no chips
abbrev pub no_stack : Setup
no_stack =
    hand_of games.NT false 0 0 0 2 (0 ∷ 100 ∷ 100 ∷ []) (0 ∷ 0 ∷ 0 ∷ []) (1 ∷ 2 ∷ 0 ∷ []) refl refl
    refl

-- not valid: no limit with a small bet
abbrev pub unused_small_bet : Setup
unused_small_bet =
    hand_of games.NT false 0 1 0 2 (100 ∷ 100 ∷ 100 ∷ []) (0 ∷ 0 ∷ 0 ∷ []) (1 ∷ 2 ∷ 0 ∷ []) refl
    refl refl

-- not valid: antes are said to be dead, but there are none
abbrev pub no_dead_antes : Setup
no_dead_antes =
    hand_of games.NT true 0 0 0 2 (100 ∷ 100 ∷ 100 ∷ []) (0 ∷ 0 ∷ 0 ∷ []) (1 ∷ 2 ∷ 0 ∷ []) refl refl
    refl

-- not valid: stud for eight seats
abbrev pub eight_in_stud : Setup
eight_in_stud =
    hand_of games.F7S false 1 2 4 0 (100 ∷ 100 ∷ 100 ∷ 100 ∷ 100 ∷ 100 ∷ 100 ∷ 100 ∷ [])
    (1 ∷ 1 ∷ 1 ∷ 1 ∷ 1 ∷ 1 ∷ 1 ∷ 1 ∷ []) (0 ∷ 0 ∷ 0 ∷ 0 ∷ 0 ∷ 0 ∷ 0 ∷ 0 ∷ []) refl refl refl
