-- The levels of some stakes are just the different amounts above 0 of live seats, ascending.
use Rattle.std.proofs.Common.{◌≡◌, ℕ, ◌≤◌, Bool, true, false, ◌&&◌, ◌==◌, List, [], ◌∷◌, refl, sym, ap, ◌∙◌, arith, nat_lt, nat_le, length, map, filter, count_by}
use Rattle.std.specs.List.{list_any}
use Rattle.std.proofs.lemmas.Bool.{ltb-true, eqb-true, le-leb, eq-eqb, and_parts, and_from, or_left}
use Rattle.std.proofs.lemmas.Bool.Decides.{nat_tests}
use Rattle.std.proofs.lemmas.List.{length-map}
use Rattle.std.proofs.lemmas.List.Sums.{count_by-le-length, length-filter}
use Rattle.std.proofs.lemmas.List.Elements.{All-map, All-weaker, filter_passes}
use Rattle.card_set.proofs.Rising.{Rising}
use Rattle.card_set.proofs.Any.{list_any-map, list_any-filter, list_any-same, list_any-weaker, list_any-from_nothing}
use Rattle.chip_ledger.specs.Pots.{Stake, levels}
use Rattle.chip_ledger.proofs.Different.{Rising-different, length-different, list_any-different}

-- a seat whose chips make a level
abbrev pub makes_level : Stake → Bool
makes_level s = s.live && nat_lt 0 s.chips

-- a test passes at a level if and only if it passes at an amount above 0 of a live seat
pub list_any-levels : (p : ℕ → Bool) (stakes : List Stake)
    → list_any p (levels stakes) ≡ list_any (λ s. makes_level s && p s.chips) stakes
unfolding levels
list_any-levels p stakes =
    list_any-different p (map (λ (s : Stake). s.chips) (filter makes_level stakes))
    ∙ list_any-map p (λ (s : Stake). s.chips) (filter makes_level stakes)
    ∙ list_any-filter (λ (s : Stake). p s.chips) makes_level stakes

pub Rising-levels : (stakes : List Stake) → Rising 1 (levels stakes)
unfolding levels
Rising-levels stakes =
    let chips : Stake → ℕ = λ s. s.chips in
    let makers = filter makes_level stakes in
    let above : (s : Stake) → makes_level s ≡ true → 1 ≤ s.chips =
    λ s h. let l = ltb-true 0 s.chips (and_parts s.live (nat_lt 0 s.chips) h).1 in omega arith in
    let each = All-weaker (λ s. makes_level s ≡ true) (λ s. 1 ≤ s.chips) above makers (filter_passes makes_level stakes) in
    Rising-different 1 (map chips makers) (All-map (λ x. 1 ≤ x) chips makers each)

above_anyway : (live : Bool) (x n : ℕ) → ((live && nat_lt 0 n) && nat_lt x n) ≡ (live && nat_lt x n)
above_anyway true x n = grind (arith, nat_tests)
above_anyway false x n = refl

-- if no level is above x, no live seat is
pub no_live_above : (x : ℕ) (stakes : List Stake)
    → filter (nat_lt x) (levels stakes) ≡ []
    → list_any (λ s. s.live && nat_lt x s.chips) stakes ≡ false
no_live_above x stakes e =
    list_any-same (λ (s : Stake). s.live && nat_lt x s.chips) (λ s. makes_level s && nat_lt x s.chips)
    (λ s. sym (above_anyway s.live x s.chips)) stakes
    ∙ sym (list_any-levels (nat_lt x) stakes)
    ∙ list_any-from_nothing (nat_lt x) (levels stakes) e

-- a level is reached by a live seat
pub level_reached : (b x : ℕ) (rest : List ℕ) (stakes : List Stake)
    → filter (nat_lt b) (levels stakes) ≡ x ∷ rest
    → list_any (λ s. s.live && nat_le x s.chips) stakes ≡ true
level_reached b x rest stakes e =
    let here : list_any (λ y. y == x) (filter (nat_lt b) (levels stakes)) ≡ true =
    ap (list_any (λ y. y == x)) e ∙ or_left (x == x) (list_any (λ y. y == x) rest) (eq-eqb x x refl) in
    let among : list_any (λ y. y == x) (levels stakes) ≡ true =
    list_any-weaker (λ y. nat_lt b y && (y == x)) (λ y. y == x)
    (λ y h. (and_parts (nat_lt b y) (y == x) h).1) (levels stakes)
    (sym (list_any-filter (λ y. y == x) (nat_lt b) (levels stakes)) ∙ here) in
    let reaches : (s : Stake)
    → (makes_level s && (s.chips == x)) ≡ true
    → (s.live && nat_le x s.chips) ≡ true =
    λ s h.
    let parts = and_parts (makes_level s) (s.chips == x) h in
    let same = eqb-true s.chips x parts.1 in
    and_from s.live (nat_le x s.chips) (and_parts s.live (nat_lt 0 s.chips) parts.0).0
    (le-leb x s.chips (omega arith)) in
    list_any-weaker (λ s. makes_level s && (s.chips == x)) (λ (s : Stake). s.live && nat_le x s.chips)
    reaches stakes (sym (list_any-levels (λ y. y == x) stakes) ∙ among)

-- there are at most as many levels as seats
pub length-levels : (stakes : List Stake) → length (levels stakes) ≤ length stakes
unfolding levels
length-levels stakes =
    let chips : Stake → ℕ = λ s. s.chips in
    let live = filter makes_level stakes in
    let a = length-different (map chips live) in
    let b = length-map live chips in
    let c : length live ≡ count_by makes_level stakes = length-filter makes_level stakes in
    let d = count_by-le-length makes_level stakes in
    omega arith
