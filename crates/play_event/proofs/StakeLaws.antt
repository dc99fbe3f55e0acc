-- What each seat ends with if at most one seat is live.
use Rattle.std.proofs.Common.{◌≡◌, ℕ, ◌+◌, ◌-◌, ◌≤◌, ◌==◌, Bool, true, false, ◌&&◌, cond, if◌then◌else◌, List, [], ◌∷◌, refl, ap, ◌∙◌, subst, arith, get_or, nat_lt, map, sum, sum_by}
use Rattle.std.specs.List.{list_any}
use Rattle.std.proofs.lemmas.Bool.{and_from, eq-eqb, ltb-false}
use Rattle.std.proofs.lemmas.List.Folds.{list_any_at}
use Rattle.std.proofs.lemmas.List.FromFn.{get_or-range_with_len, length-range_with_len}
use Rattle.std.proofs.lemmas.List.Sums.{sum-map, sum_by-cons}
use Rattle.chip_ledger.specs.declared.rakes.RakeRow.{RakeRow}
use Rattle.chip_ledger.specs.Pots.{Stake, PlainPot, after_return, counted, dead_chips, greatest_other, may_win, returned, whole_share, with_chips}
use Rattle.chip_ledger.specs.RakeRow.{rake_of}
use Rattle.chip_ledger.specs.Rakes.{HaveRakes, chips_in, less_rake, nets_of}
use Rattle.chip_ledger.specs.Seat.{seats_of}
use Rattle.chip_ledger.specs.SeatRow.{amount_of}
use Rattle.card_set.proofs.Any.{list_any-map, not_among_kept}
use Rattle.card_set.proofs.Sums.{sum_by-map, sum_by-plus, sum_by-same}
use Rattle.chip_ledger.proofs.OneSeat.{passes_once, sum_of_one}
use Rattle.chip_ledger.proofs.PotSums.{after_return_sum, stake_chips}
use Rattle.chip_ledger.proofs.SolePot.{live_stakes, may_win-one_pot, one_pot, sole_pot}
use Rattle.play_event.specs.declared.setup.Setup.{Setup}
use Rattle.play_event.specs.Past.{Move}
use Rattle.play_event.specs.Chips.{chips_left, chips_put}
use Rattle.play_event.specs.CurrentBet.{all_chips_put}
use Rattle.play_event.specs.Seats.{all_seats, is_live, live_count}
use Rattle.play_event.specs.Stakes.{counted_put, dead_antes_of, pots_after, returned_after, shares_by_folds, stack_by_folds, stake_after, stakes_after}
use Rattle.card_set.proofs.Tests.{if_same}

-- as many stakes are live as seats
live_stakes-after : (setup : Setup) (moves : List Move) → live_stakes (stakes_after setup moves) ≡ live_count setup moves
live_stakes-after setup moves = sum_by-map (λ (s : Stake). cond s.live 1 0) (stake_after setup moves) (all_seats setup)

-- the one pot
abbrev last_pot : Setup → List Move → PlainPot
last_pot setup moves = one_pot (after_return (stakes_after setup moves)) (dead_antes_of setup)

pots_are : (setup : Setup) (moves : List Move)
    → live_count setup moves ≤ 1
    → pots_after setup moves ≡ with_chips (last_pot setup moves ∷ [])
pots_are setup moves few = sole_pot (stakes_after setup moves) (dead_antes_of setup) (omega (arith, few, live_stakes-after setup moves))

-- a seat that passes a test is
among : (f : ℕ → Bool) (n seat : ℕ) → 1 ≤ seat → seat ≤ n → f seat ≡ true → list_any (λ m. f m && (m == seat)) (seats_of n) ≡ true
among f n seat low high passes =
    let at : get_or (seats_of n) (seat - 1) 0 ≡ seat = get_or-range_with_len 1 n (seat - 1) 0 (omega arith) ∙ omega arith in
    let here : (f seat && (seat == seat)) ≡ true = and_from (f seat) (seat == seat) passes (eq-eqb seat seat refl) in
    list_any_at (λ m. f m && (m == seat)) (seats_of n) (seat - 1) 0 (omega (arith, length-range_with_len 1 n))
    (ap (λ m. f m && (m == seat)) at ∙ here)

-- who may win the pot
may_win_last : (setup : Setup) (moves : List Move) (seat : ℕ)
    → may_win (last_pot setup moves) seat ≡ list_any (λ n. is_live moves n && (n == seat)) (all_seats setup)
may_win_last setup moves seat =
    may_win-one_pot (stakes_after setup moves) (dead_antes_of setup) seat
    ∙ list_any-map (λ (s : Stake). s.live && (s.seat == seat)) (stake_after setup moves) (all_seats setup)

pub counted_by : (dead : Bool) (put ante : ℕ → ℕ) (seats : List ℕ)
    → ((n : ℕ) → ante n ≤ put n)
    → sum_by (λ n. counted dead (put n) (ante n)) seats + dead_chips dead (map ante seats) ≡ sum (map put seats)
counted_by true put ante seats within =
    let rest : ℕ → ℕ = λ n. put n - ante n in
    let both = sum_by-plus rest ante seats in
    let whole : sum_by (λ n. rest n + ante n) seats ≡ sum_by put seats = sum_by-same (λ n. rest n + ante n) put (λ n. omega (arith, within n)) seats in
    omega (arith, sum-map ante seats, sum-map put seats, both, whole)
counted_by false put ante seats within = omega (arith, sum-map put seats)

-- the counted and the dead chips are all that were put in
pub all_counted : (setup : Setup) (moves : List Move) → stake_chips (stakes_after setup moves) + dead_antes_of setup ≡ all_chips_put setup moves
all_counted setup moves =
    let each : stake_chips (stakes_after setup moves) ≡ sum_by (counted_put setup moves) (all_seats setup) =
    sum_by-map (λ (s : Stake). s.chips) (stake_after setup moves) (all_seats setup) in
    ap (λ n. n + dead_antes_of setup) each
    ∙ counted_by setup.dead_antes (chips_put setup moves) (amount_of setup.antes) (all_seats setup) (λ n. omega arith)

-- all returned chips go to the last live seat
all_returned : (setup : Setup) (moves : List Move) (seat : ℕ)
    → live_count setup moves ≤ 1
    → 1 ≤ seat
    → seat ≤ setup.stacks.seats
    → is_live moves seat ≡ true
    → sum_by (returned (stakes_after setup moves)) (stakes_after setup moves) ≡ returned_after setup moves seat
all_returned setup moves seat few low high live =
    sum_by-map (returned (stakes_after setup moves)) (stake_after setup moves) (all_seats setup)
    ∙ sum_of_one (returned_after setup moves) setup.stacks.seats seat low high (λ k from to other.
    nothing k (is_live moves k) refl (λ also. other (passes_once (is_live moves) setup.stacks.seats k seat few from to also low high live)))
  where
    nothing : (k : ℕ) (b : Bool) → is_live moves k ≡ b → ¬ (is_live moves k ≡ true) → returned_after setup moves k ≡ 0
    nothing k true is not = absurd (not is)
    nothing k false is not = ap (λ b. if b then (stake_after setup moves k).chips - greatest_other (stakes_after setup moves) k else 0) is

-- the shares of the one pot, if it has chips
shares_of_pot : (rakes : RakeRow) (pot : PlainPot) (seat : ℕ) (has : Bool)
    → sum_by (λ share. share seat) (map whole_share (nets_of rakes (cond has (pot ∷ []) [])))
    ≡ cond has (whole_share (less_rake (rake_of rakes 1) pot) seat) 0
shares_of_pot rakes pot seat true = omega (arith, sum_by-cons (λ (share : ℕ → ℕ). share seat) (whole_share (less_rake (rake_of rakes 1) pot)) [])
shares_of_pot rakes pot seat false = refl

shares_are : (setup : Setup) (moves : List Move) (seat : ℕ)
    → live_count setup moves ≤ 1
    → sum_by (λ share. share seat) (shares_by_folds setup moves)
    ≡ cond (nat_lt 0 (last_pot setup moves).chips) (whole_share (less_rake (rake_of setup.rakes 1) (last_pot setup moves)) seat) 0
shares_are setup moves seat few =
    ap (λ pots. sum_by (λ share. share seat) (map whole_share (nets_of setup.rakes pots))) (pots_are setup moves few)
    ∙ shares_of_pot setup.rakes (last_pot setup moves) seat (nat_lt 0 (last_pot setup moves).chips)

-- a seat that has folded ends with what it has left
pub folded_stack : (setup : Setup) (moves : List Move) (seat : ℕ)
    → live_count setup moves ≤ 1
    → is_live moves seat ≡ false
    → stack_by_folds setup moves seat ≡ chips_left setup moves seat
folded_stack setup moves seat few folded =
    let pot = last_pot setup moves in
    let back : returned_after setup moves seat ≡ 0 =
    ap (λ b. if b then (stake_after setup moves seat).chips - greatest_other (stakes_after setup moves) seat else 0) folded in
    let wins : may_win pot seat ≡ false = may_win_last setup moves seat ∙ not_among_kept (is_live moves) seat (all_seats setup) folded in
    let share : sum_by (λ share. share seat) (shares_by_folds setup moves) ≡ 0 =
    shares_are setup moves seat few
    ∙ ap (λ b. cond (nat_lt 0 pot.chips) (if b then pot.chips - rake_of setup.rakes 1 else 0) 0) wins
    ∙ if_same (nat_lt 0 pot.chips) 0 in
    omega (arith, back, share)

taken : (has : Bool) (chips rake : ℕ) → nat_lt 0 chips ≡ has → rake ≤ cond has chips 0 → cond has (chips - rake) 0 + rake ≡ chips
taken true chips rake is fits = omega (arith, fits)
taken false chips rake is fits = omega (arith, fits, ltb-false 0 chips is)

first_of : (has : Bool) (pot : PlainPot) → chips_in (cond has (pot ∷ []) []) 1 ≡ cond has pot.chips 0
first_of true pot = refl
first_of false pot = refl

-- the last live seat ends with its stack and all that the others put in, minus the rake
pub last_stack : (setup : Setup) (moves : List Move) (seat : ℕ)
    → live_count setup moves ≤ 1
    → 1 ≤ seat
    → seat ≤ setup.stacks.seats
    → is_live moves seat ≡ true
    → HaveRakes (pots_after setup moves) setup.rakes
    → stack_by_folds setup moves seat + rake_of setup.rakes 1
    ≡ chips_left setup moves seat + all_chips_put setup moves
last_stack setup moves seat few low high live fits =
    let pot = last_pot setup moves in
    let has = nat_lt 0 pot.chips in
    let rake = rake_of setup.rakes 1 in
    let wins : may_win pot seat ≡ true = may_win_last setup moves seat ∙ among (is_live moves) setup.stacks.seats seat low high live in
    let share : sum_by (λ share. share seat) (shares_by_folds setup moves) ≡ cond has (pot.chips - rake) 0 =
    shares_are setup moves seat few ∙ ap (λ b. cond has (if b then pot.chips - rake else 0) 0) wins in
    let covered : rake ≤ cond has pot.chips 0 =
    subst (λ n. rake ≤ n) (ap (λ pots. chips_in pots 1) (pots_are setup moves few) ∙ first_of has pot) (fits 1) in
    omega (arith, share, taken has pot.chips rake refl covered, after_return_sum (stakes_after setup moves), all_returned setup moves seat few low high live, all_counted setup moves)
