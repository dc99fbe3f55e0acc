-- A pot that is cut at the next level leaves the pots of the levels above it to be cut.
use Rattle.std.proofs.Common.{◌≡◌, ℕ, ◌+◌, ◌≤◌, Bool, true, false, cond, if◌then◌else◌, List, [], ◌∷◌, ◌++◌, None, Some, length, refl, sym, ap, ◌∙◌, subst, arith, append_assoc, map, nat_le, nat_lt, slice_get, ◌&&◌, All}
use Rattle.std.proofs.lemmas.List.{append-nil, map-append}
use Rattle.std.proofs.lemmas.Bool.{cond-false, cond-true, cond_both}
use Rattle.std.proofs.lemmas.List.Elements.{All-push}
use Rattle.std.proofs.lemmas.List.FromFn.{length-map-range_with_len}
use Rattle.card_set.proofs.Rising.{first_and_rest, above_first, filter-Rising}
use Rattle.card_set.proofs.Lists.{no_first}
use Rattle.chip_ledger.specs.declared.pots.Pot.{Pot}
use Rattle.chip_ledger.specs.declared.live_row.LiveRow.{LiveRow}
use Rattle.chip_ledger.specs.declared.seat_row.SeatRow.{SeatRow}
use Rattle.chip_ledger.specs.LiveRow.{flag_of, flagged}
use Rattle.chip_ledger.specs.SeatRow.{amount_of}
use Rattle.chip_ledger.specs.PotRow.{plain, stake_of, stakes_of}
use Rattle.chip_ledger.specs.Pots.{PlainPot, Stake, is_reached_by_all, between, joining, layers, levels, pots_at, reaching, with_chips, with_dead}
use Rattle.chip_ledger.proofs.PotLevels.{Rising-levels, length-levels}
use Rattle.chip_ledger.proofs.StakeRows.{flagged-live, flagged-reaching}
use Rattle.chip_ledger.proofs.PotSums.{stake_chips}
use Rattle.side_pots.specs.Levels.{levels_above}

-- the pots of the levels above some chips, with the dead chips that are in no pot yet
abbrev pub left_to_cut : List Stake → ℕ → ℕ → List PlainPot
left_to_cut stakes below dead = with_chips (with_dead dead (layers stakes below (levels_above stakes below)))

-- the next level, and those above it
pub levels_from_next : (stakes : List Stake) (below level : ℕ)
    → slice_get (levels_above stakes below) 0 ≡ Some level
    → levels_above stakes below ≡ level ∷ levels_above stakes level
levels_from_next stakes below level h =
    let split = first_and_rest below 1 level (levels stakes) (levels_above stakes below) refl h in
    let above = above_first below 1 level (levels stakes) split.0 (Rising-levels stakes) split.1 in
    split.1 ∙ ap (λ xs. level ∷ xs) (sym above.1)

-- all levels are above 0
pub levels_above-zero : (stakes : List Stake) → levels_above stakes 0 ≡ levels stakes
levels_above-zero stakes = filter-Rising 0 1 (levels stakes) (omega arith) (Rising-levels stakes)

with_no_dead : (pots : List PlainPot) → with_dead 0 pots ≡ pots
with_no_dead [] = refl
with_no_dead (pot ∷ pots) =
    let e : pot.chips + 0 ≡ pot.chips = omega arith in
    ap (λ n. record { chips = n; eligible = pot.eligible } ∷ pots) e

with_chips-cons : (pot : PlainPot) (pots : List PlainPot) (some : Bool)
    → cond some (pot ∷ with_chips pots) (with_chips pots) ≡ cond some (pot ∷ []) [] ++ with_chips pots
with_chips-cons pot pots true = refl
with_chips-cons pot pots false = refl

-- the pot of the next level, and those above it
pub left_to_cut-next : (stakes : List Stake) (below level dead : ℕ)
    → slice_get (levels_above stakes below) 0 ≡ Some level
    → left_to_cut stakes below dead
    ≡ with_chips
    (record { chips = between stakes below level + joining stakes level (levels_above stakes level) + dead; eligible = reaching stakes level } ∷ []) ++ left_to_cut stakes level 0
unfolding layers
left_to_cut-next stakes below level dead h =
    let above = levels_above stakes level in
    let pot : PlainPot =
    record { chips = between stakes below level + joining stakes level above + dead; eligible = reaching stakes level } in
    let further = layers stakes level above in
    ap (λ xs. with_chips (with_dead dead (layers stakes below xs))) (levels_from_next stakes below level h)
    ∙ with_chips-cons pot further (nat_lt 0 pot.chips)
    ∙ ap (λ ps. with_chips (pot ∷ []) ++ with_chips ps) (sym (with_no_dead further))

plain_added : (old : List Pot) (pot : Pot) (some : Bool)
    → map plain (cond some (old ++ pot ∷ []) old) ≡ map plain old ++ cond some (plain pot ∷ []) []
plain_added old pot true = map-append plain old (pot ∷ [])
plain_added old pot false = sym (append-nil (map plain old))

-- the pots once one more is there, unless it has no chips
pub plain-added : (old new : List Pot) (pot : Pot)
    → new ≡ (if nat_lt 0 pot.chips then old ++ pot ∷ [] else old)
    → map plain new ≡ map plain old ++ with_chips (plain pot ∷ [])
plain-added old new pot e = ap (map plain) e ∙ plain_added old pot (nat_lt 0 pot.chips)

-- a loop's step: the pot of the next level is added to the pots, and the higher ones are left to be
-- cut
pub cut_step : (stakes : List Stake) (below level dead : ℕ) (old new : List Pot) (pot : Pot)
    (start : List PlainPot)
    → slice_get (levels_above stakes below) 0 ≡ Some level
    → plain pot
    ≡ record { chips = between stakes below level + joining stakes level (levels_above stakes level) + dead; eligible = reaching stakes level }
    → new ≡ (if nat_lt 0 pot.chips then old ++ pot ∷ [] else old)
    → map plain old ++ left_to_cut stakes below dead ≡ start
    → map plain new ++ left_to_cut stakes level 0 ≡ start
cut_step stakes below level dead old new pot start next is added so_far =
    let further = left_to_cut stakes level 0 in
    ap (λ ps. ps ++ further) (plain-added old new pot added)
    ∙ append_assoc (map plain old) (with_chips (plain pot ∷ [])) further
    ∙ ap (λ p. map plain old ++ (with_chips (p ∷ []) ++ further)) is
    ∙ ap (λ ps. map plain old ++ ps) (sym (left_to_cut-next stakes below level dead next))
    ∙ so_far

-- without a level above nothing is left to be cut
pub cut_end : (stakes : List Stake) (below dead : ℕ) (pots start : List PlainPot)
    → slice_get (levels_above stakes below) 0 ≡ None
    → pots ++ left_to_cut stakes below dead ≡ start
    → pots ≡ start
unfolding layers
cut_end stakes below dead pots start last so_far =
    let none : levels_above stakes below ≡ [] = no_first (levels_above stakes below) last in
    sym (append-nil pots)
    ∙ ap (λ xs. pots ++ with_chips (with_dead dead (layers stakes below xs))) (sym none)
    ∙ so_far

-- a fact of every pot stays true when a pot is added
pub All-added : (P : Pot → Type 0) (old new : List Pot) (pot : Pot)
    → new ≡ (if nat_lt 0 pot.chips then old ++ pot ∷ [] else old)
    → All P old
    → P pot
    → All P new
All-added P old new pot e h p =
    subst (All P) (sym e)
    (cond_both (nat_lt 0 pot.chips) (old ++ pot ∷ []) old (All P) (λ _. All-push P old pot h p) (λ _. h))

-- there are at most as many levels as seats
pub length-levels_above : (puts : SeatRow) (live : LiveRow)
    → length (levels_above (stakes_of puts live) 0) ≤ puts.seats
length-levels_above puts live =
    let a = ap length (levels_above-zero (stakes_of puts live)) in
    let b = length-levels (stakes_of puts live) in
    let c = length-map-range_with_len (stake_of puts live) 1 puts.seats in
    omega arith

-- a pot of these chips and of the seats that reach a level
pub plain_pot : (left : SeatRow) (live eligible : LiveRow) (level m n : ℕ)
    → m ≡ n
    → eligible.seats ≡ left.seats
    → ((k : ℕ) → 1 ≤ k → k ≤ left.seats → flag_of eligible k ≡ (flag_of live k && nat_le level (amount_of left k)))
    → plain (record { chips = m; eligible = eligible })
    ≡ record { chips = n; eligible = reaching (stakes_of left live) level }
plain_pot left live eligible level m n same seats flags =
    let pot : ℕ → List ℕ → PlainPot = λ x ks. record { chips = x; eligible = ks } in
    ap (λ x. pot x (flagged eligible)) same
    ∙ ap (pot n) (flagged-reaching eligible left live level seats flags)

-- without a level all chips are in one pot
pub pots_at-no_level : (stakes : List Stake) (dead : ℕ)
    → slice_get (levels_above stakes 0) 0 ≡ None
    → pots_at stakes dead (levels stakes)
    ≡ record { chips = stake_chips stakes + dead; eligible = reaching stakes 0 } ∷ []
unfolding pots_at
pots_at-no_level stakes dead last =
    ap (pots_at stakes dead) (sym (levels_above-zero stakes) ∙ no_first (levels_above stakes 0) last)

levels_first : (stakes : List Stake) (first : ℕ)
    → slice_get (levels_above stakes 0) 0 ≡ Some first
    → levels stakes ≡ first ∷ levels_above stakes first
levels_first stakes first next = sym (levels_above-zero stakes) ∙ levels_from_next stakes 0 first next

-- dead chips are in the first pot if every live seat reaches the first level
pub pots_at-together : (stakes : List Stake) (dead first : ℕ)
    → slice_get (levels_above stakes 0) 0 ≡ Some first
    → is_reached_by_all stakes first ≡ true
    → pots_at stakes dead (levels stakes) ≡ with_dead dead (layers stakes 0 (levels stakes))
unfolding pots_at
pots_at-together stakes dead first next all =
    let xs = levels_first stakes first next in
    let own : PlainPot = record { chips = dead; eligible = reaching stakes 0 } in
    let cut = layers stakes 0 (first ∷ levels_above stakes first) in
    ap (pots_at stakes dead) xs
    ∙ cond-true (is_reached_by_all stakes first) (with_dead dead cut) (own ∷ cut) all
    ∙ ap (λ ys. with_dead dead (layers stakes 0 ys)) (sym xs)

-- otherwise they are a pot of their own
pub pots_at-apart : (stakes : List Stake) (dead first : ℕ)
    → slice_get (levels_above stakes 0) 0 ≡ Some first
    → is_reached_by_all stakes first ≡ false
    → with_chips (pots_at stakes dead (levels stakes))
    ≡ with_chips (record { chips = dead; eligible = reaching stakes 0 } ∷ []) ++ with_chips
    (with_dead 0 (layers stakes 0 (levels stakes)))
unfolding pots_at
pots_at-apart stakes dead first next some =
    let xs = levels_first stakes first next in
    let own : PlainPot = record { chips = dead; eligible = reaching stakes 0 } in
    let cut = layers stakes 0 (first ∷ levels_above stakes first) in
    ap (λ ys. with_chips (pots_at stakes dead ys)) xs
    ∙ ap with_chips (cond-false (is_reached_by_all stakes first) (with_dead dead cut) (own ∷ cut) some)
    ∙ with_chips-cons own cut (nat_lt 0 dead)
    ∙ ap (λ ys. with_chips (own ∷ []) ++ with_chips (layers stakes 0 ys)) (sym xs)
    ∙ ap (λ ps. with_chips (own ∷ []) ++ with_chips ps) (sym (with_no_dead (layers stakes 0 (levels stakes))))

-- a pot of these chips and of all live seats
pub plain_pot-live : (left : SeatRow) (live : LiveRow) (m n : ℕ)
    → m ≡ n
    → live.seats ≡ left.seats
    → plain (record { chips = m; eligible = live })
    ≡ record { chips = n; eligible = reaching (stakes_of left live) 0 }
plain_pot-live left live m n same seats =
    let pot : ℕ → List ℕ → PlainPot = λ x ks. record { chips = x; eligible = ks } in
    ap (λ x. pot x (flagged live)) same ∙ ap (pot n) (flagged-live left live seats)
