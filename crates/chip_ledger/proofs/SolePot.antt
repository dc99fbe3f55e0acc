-- If at most one seat is live, all chips that are not returned are one pot, for this seat.
use Rattle.std.proofs.Common.{◌≡◌, ℕ, ◌+◌, ◌≤◌, Bool, true, false, not, ◌&&◌, ◌||◌, ◌==◌, cond, List, [], ◌∷◌, refl, sym, ap, ◌∙◌, arith, nat_le, nat_lt, length, map, filter, count_by}
use Rattle.std.specs.List.{list_any}
use Rattle.std.proofs.lemmas.Bool.{and_parts, le-leb}
use Rattle.std.proofs.lemmas.List.{length-map}
use Rattle.std.proofs.lemmas.List.Sums.{length-filter, sum_by-cons}
use Rattle.chip_ledger.specs.Pots.{Stake, PlainPot, after_return, is_reached_by_all, between, folded_above, without_returned, layers, levels, may_win, pots_at, pots_of, reaching, with_chips}
use Rattle.card_set.proofs.Any.{list_any-filter, list_any-map, list_any-same}
use Rattle.card_set.proofs.Rising.{filter-Rising}
use Rattle.card_set.proofs.Sums.{sum_by-map}
use Rattle.chip_ledger.proofs.Different.{length-different}
use Rattle.chip_ledger.proofs.PotLevels.{Rising-levels, level_reached, makes_level}
use Rattle.chip_ledger.proofs.PotSums.{pot_chips, pots_at_levels, stake_chips}
use Rattle.card_set.proofs.Counting.{count_by-cons}

-- how many of the seats are live
abbrev pub live_stakes : List Stake → ℕ
live_stakes stakes = count_by (λ (s : Stake). s.live) stakes

live_one : (live some : Bool) → cond (live && some) 1 0 ≤ cond live 1 0
live_one true true = omega arith
live_one true false = omega arith
live_one false some = omega arith

level_makers : (stakes : List Stake) → count_by makes_level stakes ≤ live_stakes stakes
level_makers [] = omega arith
level_makers (s ∷ rest) =
    omega (arith, count_by-cons makes_level s rest, count_by-cons (λ (t : Stake). t.live) s rest, level_makers rest, live_one s.live (nat_lt 0 s.chips))

-- there are no more levels than live seats
few_levels : (stakes : List Stake) → length (levels stakes) ≤ live_stakes stakes
unfolding levels
few_levels stakes =
    let chips : Stake → ℕ = λ s. s.chips in
    let makers = filter makes_level stakes in
    omega (arith, length-different (map chips makers), length-map makers chips, length-filter makes_level stakes, level_makers stakes)

none_step : (live reaches some all : Bool) (n : ℕ)
    → cond live 1 0 + n ≡ 0
    → (n ≡ 0 → (some ≡ false) × (all ≡ true))
    → (((live && reaches) || some) ≡ false) × (((not live || reaches) && all) ≡ true)
none_step true reaches some all n none rest = absurd (omega (arith, none))
none_step false reaches some all n none rest = rest (omega (arith, none))

-- if no seat is live none reaches a level, and so all live ones do
none_reach : (x : ℕ) (stakes : List Stake)
    → live_stakes stakes ≡ 0
    → (list_any (λ s. s.live && nat_le x s.chips) stakes ≡ false) × (is_reached_by_all stakes x ≡ true)
none_reach x [] none = (refl, refl)
none_reach x (s ∷ rest) none =
    none_step s.live (nat_le x s.chips) (list_any (λ t. t.live && nat_le x t.chips) rest) (is_reached_by_all rest x)
    (live_stakes rest) (sym (count_by-cons (λ (t : Stake). t.live) s rest) ∙ none) (none_reach x rest)

alone_step : (live reaches some all : Bool) (n : ℕ)
    → cond live 1 0 + n ≤ 1
    → (n ≡ 0 → (some ≡ false) × (all ≡ true))
    → (n ≤ 1 → some ≡ true → all ≡ true)
    → ((live && reaches) || some) ≡ true
    → ((not live || reaches) && all) ≡ true
alone_step false reaches some all n few none more found = more (omega (arith, few)) found
alone_step true true some all n few none more found = (none (omega (arith, few))).1
alone_step true false some all n few none more found = absurd (cc (found, (none (omega (arith, few))).0))

-- if only one seat is live, a level that it reaches is reached by all
alone_reaches : (x : ℕ) (stakes : List Stake)
    → live_stakes stakes ≤ 1
    → list_any (λ s. s.live && nat_le x s.chips) stakes ≡ true
    → is_reached_by_all stakes x ≡ true
alone_reaches x [] few found = refl
alone_reaches x (s ∷ rest) few found =
    alone_step s.live (nat_le x s.chips) (list_any (λ t. t.live && nat_le x t.chips) rest) (is_reached_by_all rest x)
    (live_stakes rest) (omega (arith, few, count_by-cons (λ (t : Stake). t.live) s rest)) (none_reach x rest)
    (alone_reaches x rest) found

kept_both : (s : Stake) (xs ys : List Stake) (live reaches zero : Bool)
    → zero ≡ true
    → (not live || reaches) ≡ true
    → xs ≡ ys
    → cond (live && reaches) (s ∷ xs) xs ≡ cond (live && zero) (s ∷ ys) ys
kept_both s xs ys false reaches zero z h e = e
kept_both s xs ys true true true z h e = ap (λ ts. s ∷ ts) e
kept_both s xs ys true true false z h e = absurd (cc z)
kept_both s xs ys true false zero z h e = absurd (cc h)

-- if all live seats reach a level, those that reach it are all live seats
reaching_filter : (x : ℕ) (stakes : List Stake)
    → is_reached_by_all stakes x ≡ true
    → filter (λ s. s.live && nat_le x s.chips) stakes ≡ filter (λ s. s.live && nat_le 0 s.chips) stakes
reaching_filter x [] h = refl
reaching_filter x (s ∷ rest) h =
    let parts = and_parts (not s.live || nat_le x s.chips) (is_reached_by_all rest x) h in
    kept_both s (filter (λ t. t.live && nat_le x t.chips) rest) (filter (λ t. t.live && nat_le 0 t.chips) rest)
    s.live (nat_le x s.chips) (nat_le 0 s.chips) (le-leb 0 s.chips (omega arith)) parts.0
    (reaching_filter x rest parts.1)

-- all chips in one pot, for every live seat
abbrev pub one_pot : List Stake → ℕ → PlainPot
one_pot stakes dead = record { chips = stake_chips stakes + dead; eligible = reaching stakes 0 }

sole_at : (stakes : List Stake) (dead : ℕ) (xs : List ℕ)
    → levels stakes ≡ xs
    → length xs ≤ 1
    → live_stakes stakes ≤ 1
    → pots_at stakes dead xs ≡ one_pot stakes dead ∷ []
unfolding pots_at layers
sole_at stakes dead [] e few alone = refl
sole_at stakes dead (x ∷ []) e few alone =
    let from_zero : filter (nat_lt 0) (levels stakes) ≡ x ∷ [] =
    filter-Rising 0 1 (levels stakes) (omega arith) (Rising-levels stakes) ∙ e in
    let all = alone_reaches x stakes alone (level_reached 0 x [] stakes from_zero) in
    let cut : PlainPot = record { chips = between stakes 0 x + folded_above stakes x + dead; eligible = reaching stakes x } in
    let apart : List PlainPot = record { chips = dead; eligible = reaching stakes 0 } ∷ layers stakes 0 (x ∷ []) in
    let chosen : pots_at stakes dead (x ∷ []) ≡ cut ∷ [] = ap (λ b. cond b (cut ∷ []) apart) all in
    let sum : cut.chips ≡ stake_chips stakes + dead =
    omega (arith, sym (ap pot_chips chosen) ∙ pots_at_levels stakes dead (x ∷ []) e, sum_by-cons (λ (p : PlainPot). p.chips) cut []) in
    let seats : reaching stakes x ≡ reaching stakes 0 = ap (map (λ (s : Stake). s.seat)) (reaching_filter x stakes all) in
    let pot : ℕ → List ℕ → PlainPot = λ n ns. record { chips = n; eligible = ns } in
    chosen ∙ ap (λ n. pot n (reaching stakes x) ∷ []) sum ∙ ap (λ ns. pot (stake_chips stakes + dead) ns ∷ []) seats
sole_at stakes dead (x ∷ y ∷ rest) e few alone = absurd (omega (arith, few))

still_live : (stakes : List Stake) → live_stakes (after_return stakes) ≡ live_stakes stakes
unfolding after_return
still_live stakes = sum_by-map (λ (s : Stake). cond s.live 1 0) (without_returned stakes) stakes

-- the pots if at most one seat is live
pub sole_pot : (stakes : List Stake) (dead : ℕ)
    → live_stakes stakes ≤ 1
    → pots_of stakes dead ≡ with_chips (one_pot (after_return stakes) dead ∷ [])
unfolding pots_of
sole_pot stakes dead few =
    let left = after_return stakes in
    let alone : live_stakes left ≤ 1 = omega (arith, few, still_live stakes) in
    ap with_chips (sole_at left dead (levels left) refl (omega (arith, few_levels left, alone)) alone)

same_seat : (live : Bool) (n m seat : ℕ) → ((live && nat_le 0 n) && (m == seat)) ≡ (live && (m == seat))
same_seat true n m seat = ap (λ b. b && (m == seat)) (le-leb 0 n (omega arith))
same_seat false n m seat = refl

-- every live seat may win it
pub may_win-one_pot : (stakes : List Stake) (dead seat : ℕ)
    → may_win (one_pot (after_return stakes) dead) seat ≡ list_any (λ (s : Stake). s.live && (s.seat == seat)) stakes
unfolding after_return
may_win-one_pot stakes dead seat =
    let left = map (without_returned stakes) stakes in
    list_any-map (λ n. n == seat) (λ (s : Stake). s.seat) (filter (λ s. s.live && nat_le 0 s.chips) left)
    ∙ list_any-filter (λ (s : Stake). s.seat == seat) (λ s. s.live && nat_le 0 s.chips) left
    ∙ list_any-same (λ (s : Stake). (s.live && nat_le 0 s.chips) && (s.seat == seat)) (λ s. s.live && (s.seat == seat))
    (λ s. same_seat s.live s.chips s.seat seat) left
    ∙ list_any-map (λ (s : Stake). s.live && (s.seat == seat)) (without_returned stakes) stakes
