-- Pots and returns add up to all counted chips and the dead ones.
use Rattle.std.proofs.Common.{◌≡◌, ℕ, ◌+◌, ◌-◌, ◌<◌, Bool, true, false, ◌&&◌, if◌then◌else◌, List, [], ◌∷◌, refl, ◌∙◌, arith, nat_lt, map, filter, sum_by, min}
use Rattle.std.proofs.lemmas.Bool.{cond_both, ltb-false}
use Rattle.std.proofs.lemmas.List.Sums.{sum_by-cons}
use Rattle.card_set.proofs.Rising.{above_first, filter-Rising}
use Rattle.card_set.proofs.Sums.{sum_by-agree, sum_by-filter, sum_by-map, sum_by-plus, sum_by-same}
use Rattle.chip_ledger.specs.Pots.{Stake, PlainPot, after_return, is_reached_by_all, between, folded_above, joining, without_returned, layers, levels, pots_at, pots_of, reaching, returned, with_dead, greatest_other}
use Rattle.chip_ledger.proofs.PotLevels.{Rising-levels, no_live_above}

-- the chips of all these pots
abbrev pub pot_chips : List PlainPot → ℕ
pot_chips pots = sum_by (λ (p : PlainPot). p.chips) pots

-- the chips of all these stakes
abbrev pub stake_chips : List Stake → ℕ
stake_chips stakes = sum_by (λ (s : Stake). s.chips) stakes

-- the chips up to a level, and for a folded seat those above it, are all chips if no live seat is
-- above it
above_last : (b x n : ℕ) (live : Bool) → b < x → (live && nat_lt x n) ≡ false
    → (min n x - b) + (if live then 0 else n - x) ≡ n - b
above_last b x n true l h = let m = ltb-false x n h in omega arith
above_last b x n false l h = omega arith

pot_chips-cons : (n : ℕ) (seats : List ℕ) (pots : List PlainPot)
    → pot_chips (record { chips = n; eligible = seats } ∷ pots) ≡ n + pot_chips pots
pot_chips-cons n seats pots =
    sum_by-cons (λ (p : PlainPot). p.chips) (record { chips = n; eligible = seats }) pots

-- the pots above a level have all chips above it
pub layers_sum : (stakes : List Stake) (b x : ℕ) (rest : List ℕ)
    → filter (nat_lt b) (levels stakes) ≡ x ∷ rest
    → pot_chips (layers stakes b (x ∷ rest)) ≡ sum_by (λ (s : Stake). s.chips - b) stakes
unfolding layers
layers_sum stakes b x [] e =
    let next = above_first b 1 x (levels stakes) [] (Rising-levels stakes) e in
    let upto : Stake → ℕ = λ s. min s.chips x - b in
    let over : Stake → ℕ = λ s. if s.live then 0 else s.chips - x in
    let all : sum_by (λ s. upto s + over s) stakes ≡ sum_by (λ (s : Stake). s.chips - b) stakes =
    sum_by-agree (λ (s : Stake). s.live && nat_lt x s.chips) (λ s. upto s + over s)
    (λ (s : Stake). s.chips - b) (λ s h. above_last b x s.chips s.live next.0 h) stakes
    (no_live_above x stakes next.1) in
    let both = sum_by-plus upto over stakes in
    pot_chips-cons (between stakes b x + folded_above stakes x) (reaching stakes x) [] ∙ omega arith
layers_sum stakes b x (y ∷ rest) e =
    let next = above_first b 1 x (levels stakes) (y ∷ rest) (Rising-levels stakes) e in
    let upto : Stake → ℕ = λ s. min s.chips x - b in
    let over : Stake → ℕ = λ s. s.chips - x in
    let all : sum_by (λ s. upto s + over s) stakes ≡ sum_by (λ (s : Stake). s.chips - b) stakes =
    sum_by-same (λ s. upto s + over s) (λ (s : Stake). s.chips - b) (λ s. let l = next.0 in omega arith)
    stakes in
    let both = sum_by-plus upto over stakes in
    let further = layers_sum stakes x y rest next.1 in
    pot_chips-cons (between stakes b x + 0) (reaching stakes x) (layers stakes x (y ∷ rest)) ∙ omega arith

with_dead_sum : (dead : ℕ) (pot : PlainPot) (pots : List PlainPot)
    → pot_chips (with_dead dead (pot ∷ pots)) ≡ pot_chips (pot ∷ pots) + dead
with_dead_sum dead pot pots =
    omega (arith, pot_chips-cons (pot.chips + dead) pot.eligible pots, pot_chips-cons pot.chips pot.eligible pots)

pub pots_at_levels : (stakes : List Stake) (dead : ℕ) (xs : List ℕ)
    → levels stakes ≡ xs
    → pot_chips (pots_at stakes dead xs) ≡ stake_chips stakes + dead
unfolding pots_at layers
pots_at_levels stakes dead [] e =
    pot_chips-cons (stake_chips stakes + dead) (reaching stakes 0) [] ∙ omega arith
pots_at_levels stakes dead (x ∷ rest) e =
    let from_zero : filter (nat_lt 0) (levels stakes) ≡ x ∷ rest =
    filter-Rising 0 1 (levels stakes) (omega arith) (Rising-levels stakes) ∙ e in
    let all = layers_sum stakes 0 x rest from_zero in
    let whole : sum_by (λ (s : Stake). s.chips - 0) stakes ≡ stake_chips stakes =
    sum_by-same (λ (s : Stake). s.chips - 0) (λ (s : Stake). s.chips) (λ s. omega arith) stakes in
    let cut = layers stakes 0 (x ∷ rest) in
    let first : PlainPot =
    record { chips = between stakes 0 x + joining stakes x rest; eligible = reaching stakes x } in
    cond_both (is_reached_by_all stakes x) (with_dead dead cut)
    (record { chips = dead; eligible = reaching stakes 0 } ∷ cut)
    (λ pots. pot_chips pots ≡ stake_chips stakes + dead)
    (λ _. with_dead_sum dead first (layers stakes x rest) ∙ omega arith)
    (λ _. pot_chips-cons dead (reaching stakes 0) cut ∙ omega arith)

-- what is left of a seat's chips plus what it gets back are its chips
left_and_returned : (live : Bool) (n m : ℕ) → (n - (if live then n - m else 0)) + (if live then n - m else 0) ≡ n
left_and_returned true n m = omega arith
left_and_returned false n m = omega arith

pub after_return_sum : (stakes : List Stake)
    → stake_chips (after_return stakes) + sum_by (returned stakes) stakes ≡ stake_chips stakes
unfolding after_return
after_return_sum stakes =
    let left : Stake → ℕ = λ s. s.chips - returned stakes s in
    let mapped : stake_chips (map (without_returned stakes) stakes) ≡ sum_by left stakes =
    sum_by-map (λ (s : Stake). s.chips) (without_returned stakes) stakes in
    let both = sum_by-plus left (returned stakes) stakes in
    let all : sum_by (λ s. left s + returned stakes s) stakes ≡ stake_chips stakes =
    sum_by-same (λ s. left s + returned stakes s) (λ (s : Stake). s.chips)
    (λ s. left_and_returned s.live s.chips (greatest_other stakes s.seat)) stakes in
    omega arith

-- the chips of the pots and what every seat gets back add up to all chips that the seats put and
-- the dead ones
pub pots_sum : (stakes : List Stake) (dead : ℕ)
    → pot_chips (pots_of stakes dead) + sum_by (returned stakes) stakes ≡ stake_chips stakes + dead
unfolding pots_of
pots_sum stakes dead =
    let left = after_return stakes in
    let none : (p : PlainPot) → nat_lt 0 p.chips ≡ false → p.chips ≡ 0 = λ p h. let l =
    ltb-false 0 p.chips h in omega arith in
    let filtered =
    sum_by-filter (λ (p : PlainPot). nat_lt 0 p.chips) (λ (p : PlainPot). p.chips) none
    (pots_at left dead (levels left)) in
    let cut = pots_at_levels left dead (levels left) refl in
    let split = after_return_sum stakes in
    omega arith
