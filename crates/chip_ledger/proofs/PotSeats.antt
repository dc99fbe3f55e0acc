-- Every pot has a seat that may win it, and a seat that may win a pot may win each lower one.
use Rattle.std.proofs.Common.{◌≡◌, ◌≢◌, ℕ, ◌+◌, ◌≤◌, Bool, true, ◌&&◌, ◌==◌, List, [], ◌∷◌, refl, sym, ◌∙◌, arith, nat_lt, nat_le, map, filter}
use Rattle.std.specs.List.{All, AllPairs, list_any}
use Rattle.std.proofs.lemmas.Bool.{cond_both, leb-true, le-leb, and_parts, and_from, true≢false}
use Rattle.std.proofs.lemmas.List.Elements.{All-nil, All-cons, All-head, All-tail, All-filter}
use Rattle.std.proofs.lemmas.List.Kept.{AllPairs-cons, AllPairs-filter}
use Rattle.card_set.proofs.Rising.{Rising, above_first, filter-Rising}
use Rattle.card_set.proofs.Any.{list_any-map, list_any-filter, list_any-weaker, list_any-from_nothing}
use Rattle.card_set.proofs.Lists.{map_nothing}
use Rattle.chip_ledger.specs.Pots.{Stake, PlainPot, after_return, is_reached_by_all, between, joining, without_returned, layers, levels, may_win, pots_at, pots_of, reaching, with_dead}
use Rattle.chip_ledger.proofs.PotLevels.{Rising-levels, level_reached}
use Rattle.chip_ledger.proofs.PotSums.{stake_chips}

-- some live seat reaches the level
abbrev pub Reached : List Stake → ℕ → Type 0
Reached stakes level = list_any (λ (s : Stake). s.live && nat_le level s.chips) stakes ≡ true

reaching-some : (stakes : List Stake) (level : ℕ) → Reached stakes level → reaching stakes level ≢ []
reaching-some stakes level h e =
    let q : Stake → Bool = λ s. s.live && nat_le level s.chips in
    let none = list_any-from_nothing q stakes (map_nothing (λ (s : Stake). s.seat) (filter q stakes) e) in
    true≢false (sym h ∙ none)

-- a seat may win the pot
abbrev pub IsWinnable : PlainPot → Type 0
IsWinnable pot = pot.eligible ≢ []

layers_winnable : (stakes : List Stake) (b : ℕ) (xs : List ℕ)
    → filter (nat_lt b) (levels stakes) ≡ xs
    → All IsWinnable (layers stakes b xs)
unfolding layers
layers_winnable stakes b [] e = All-nil IsWinnable
layers_winnable stakes b (x ∷ rest) e =
    All-cons IsWinnable
    (record { chips = between stakes b x + joining stakes x rest; eligible = reaching stakes x })
    (layers stakes x rest) (reaching-some stakes x (level_reached b x rest stakes e))
    (layers_winnable stakes x rest (above_first b 1 x (levels stakes) rest (Rising-levels stakes) e).1)

-- a fact about the eligible seats only still holds when dead chips are added to the lowest pot
All-with_dead : (P : PlainPot → Type 0) → ((n : ℕ) (p : PlainPot) → P p → P (record p { chips = n }))
    → (dead : ℕ) (pots : List PlainPot)
    → All P pots
    → All P (with_dead dead pots)
All-with_dead P keeps dead [] h = h
All-with_dead P keeps dead (p ∷ pots) h =
    All-cons P (record p { chips = p.chips + dead }) pots (keeps (p.chips + dead) p (All-head P p pots h))
    (All-tail P p pots h)

pots_at_winnable : (stakes : List Stake) (dead : ℕ) (xs : List ℕ)
    → levels stakes ≡ xs
    → Reached stakes 0
    → All IsWinnable (pots_at stakes dead xs)
unfolding pots_at
pots_at_winnable stakes dead [] e h =
    All-cons IsWinnable _ [] (reaching-some stakes 0 h) (All-nil IsWinnable)
pots_at_winnable stakes dead (x ∷ rest) e h =
    let cut = layers stakes 0 (x ∷ rest) in
    let each : All IsWinnable cut =
    layers_winnable stakes 0 (x ∷ rest)
    (filter-Rising 0 1 (levels stakes) (omega arith) (Rising-levels stakes) ∙ e) in
    let own : PlainPot = record { chips = dead; eligible = reaching stakes 0 } in
    cond_both (is_reached_by_all stakes x) (with_dead dead cut) (own ∷ cut) (All IsWinnable)
    (λ _. All-with_dead IsWinnable (λ n p k. k) dead cut each)
    (λ _. All-cons IsWinnable own cut (reaching-some stakes 0 h) each)

live_reached : (stakes : List Stake)
    → list_any (λ (s : Stake). s.live) stakes ≡ true
    → Reached (after_return stakes) 0
unfolding after_return
live_reached stakes h =
    list_any-weaker (λ (s : Stake). s.live) (λ (s : Stake). s.live && nat_le 0 s.chips)
    (λ s l. and_from s.live (nat_le 0 s.chips) l (le-leb 0 s.chips (omega arith)))
    (map (without_returned stakes) stakes) (list_any-map (λ (s : Stake). s.live) (without_returned stakes) stakes ∙ h)

-- if a seat is live, every pot has a seat that may win it
pub pots_winnable : (stakes : List Stake) (dead : ℕ)
    → list_any (λ (s : Stake). s.live) stakes ≡ true
    → All IsWinnable (pots_of stakes dead)
unfolding pots_of
pots_winnable stakes dead h =
    let left = after_return stakes in
    All-filter (λ (p : PlainPot). nat_lt 0 p.chips) IsWinnable (pots_at left dead (levels left))
    (pots_at_winnable left dead (levels left) refl (live_reached stakes h))

-- a seat that may win the higher pot may win the lower one
abbrev pub Nests : PlainPot → PlainPot → Type 0
Nests lower higher = (n : ℕ) → may_win higher n ≡ true → may_win lower n ≡ true

-- the seats that reach a level are among those that reach a lower one
reaching-lower : (stakes : List Stake) (x y k m : ℕ) → x ≤ y
    → Nests (record { chips = k; eligible = reaching stakes x })
    (record { chips = m; eligible = reaching stakes y })
reaching-lower stakes x y k m l n h =
    let at : ℕ → Stake → Bool = λ z s. s.live && nat_le z s.chips in
    let found : (z : ℕ)
    → list_any (λ i. i == n) (reaching stakes z) ≡ list_any (λ s. at z s && (s.seat == n)) stakes =
    λ z. list_any-map (λ i. i == n) (λ (s : Stake). s.seat) (filter (at z) stakes)
    ∙ list_any-filter (λ (s : Stake). s.seat == n) (at z) stakes in
    let weaker : (s : Stake) → (at y s && (s.seat == n)) ≡ true → (at x s && (s.seat == n)) ≡ true =
    λ s t.
    let parts = and_parts (at y s) (s.seat == n) t in
    let both = and_parts s.live (nat_le y s.chips) parts.0 in
    let high = leb-true y s.chips both.1 in
    and_from (at x s) (s.seat == n)
    (and_from s.live (nat_le x s.chips) both.0 (le-leb x s.chips (omega arith))) parts.1 in
    found x
    ∙ list_any-weaker (λ s. at y s && (s.seat == n)) (λ s. at x s && (s.seat == n)) weaker stakes
    (sym (found y) ∙ h)

layers_above : (stakes : List Stake) (x k b low : ℕ) (xs : List ℕ)
    → x ≤ low
    → Rising low xs
    → All (Nests (record { chips = k; eligible = reaching stakes x })) (layers stakes b xs)
unfolding layers
layers_above stakes x k b low [] l r = All-nil (Nests (record { chips = k; eligible = reaching stakes x }))
layers_above stakes x k b low (y ∷ rest) l r =
    let m = between stakes b y + joining stakes y rest in
    All-cons (Nests (record { chips = k; eligible = reaching stakes x }))
    (record { chips = m; eligible = reaching stakes y }) (layers stakes y rest)
    (reaching-lower stakes x y k m (omega arith))
    (layers_above stakes x k y (y + 1) rest (omega arith) r.1)

layers_nested : (stakes : List Stake) (b low : ℕ) (xs : List ℕ)
    → Rising low xs
    → AllPairs Nests (layers stakes b xs)
unfolding layers
layers_nested stakes b low [] r = λ i j d before inside. absurd (omega arith)
layers_nested stakes b low (x ∷ rest) r =
    let k = between stakes b x + joining stakes x rest in
    AllPairs-cons Nests (record { chips = k; eligible = reaching stakes x }) (layers stakes x rest)
    (layers_above stakes x k x (x + 1) rest (omega arith) r.1) (layers_nested stakes x (x + 1) rest r.1)

pots_at_nested : (stakes : List Stake) (dead : ℕ) (xs : List ℕ)
    → Rising 1 xs
    → AllPairs Nests (pots_at stakes dead xs)
unfolding pots_at layers
pots_at_nested stakes dead [] r =
    let one : PlainPot = record { chips = stake_chips stakes + dead; eligible = reaching stakes 0 } in
    AllPairs-cons Nests one [] (All-nil (Nests one)) (λ i j d before inside. absurd (omega arith))
pots_at_nested stakes dead (x ∷ rest) r =
    let k = between stakes 0 x + joining stakes x rest in
    let cut = layers stakes 0 (x ∷ rest) in
    let further = layers stakes x rest in
    let own : PlainPot = record { chips = dead; eligible = reaching stakes 0 } in
    let first : PlainPot = record { chips = k + dead; eligible = reaching stakes x } in
    let together : AllPairs Nests (first ∷ further) =
    AllPairs-cons Nests first further (layers_above stakes x (k + dead) x (x + 1) rest (omega arith) r.1)
    (layers_nested stakes x (x + 1) rest r.1) in
    let apart : AllPairs Nests (own ∷ cut) =
    AllPairs-cons Nests own cut (layers_above stakes 0 dead 0 1 (x ∷ rest) (omega arith) r)
    (layers_nested stakes 0 1 (x ∷ rest) r) in
    cond_both (is_reached_by_all stakes x) (first ∷ further) (own ∷ cut) (AllPairs Nests) (λ _. together) (λ _. apart)

-- a seat that may win a pot may win each lower one
pub pots_nested : (stakes : List Stake) (dead : ℕ) → AllPairs Nests (pots_of stakes dead)
unfolding pots_of
pots_nested stakes dead =
    let left = after_return stakes in
    AllPairs-filter Nests (λ (p : PlainPot). nat_lt 0 p.chips) (pots_at left dead (levels left))
    (pots_at_nested left dead (levels left) (Rising-levels left))
