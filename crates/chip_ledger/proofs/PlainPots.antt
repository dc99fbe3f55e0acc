-- What holds of the pots of the definition holds of the rows of pots that represent them.
use Rattle.std.proofs.Common.{◌≡◌, ℕ, ◌≤◌, true, List, get_or, sym, subst, arith, map, [], ◌∷◌, length, slice_get, zero, suc, refl}
use Rattle.std.specs.List.{All, AllPairs}
use Rattle.std.proofs.lemmas.List.{get_or-map, length-map}
use Rattle.chip_ledger.specs.declared.pots.Pot.{Pot}
use Rattle.chip_ledger.specs.LiveRow.{flag_of}
use Rattle.chip_ledger.specs.PotRow.{plain}
use Rattle.chip_ledger.specs.Pots.{PlainPot, may_win}
use Rattle.chip_ledger.proofs.Flags.{flag-from_flagged, flagged-from_flag}
use Rattle.std.specs.Option.{option_map_or}

-- a fact of each pot
pub All-plain : (P : PlainPot → Type 0) (pots : List Pot) (by_rule : List PlainPot)
    → map plain pots ≡ by_rule
    → All P by_rule
    → All (λ pot. P (plain pot)) pots
All-plain P pots by_rule e h k d inside =
    let long = length-map pots plain in
    let each : All P (map plain pots) = subst (All P) (sym e) h in
    subst P (get_or-map plain pots k d (plain d) inside) (each k (plain d) (omega arith))

-- a fact of each pot and each higher one
pub AllPairs-plain : (R : PlainPot → PlainPot → Type 0) (pots : List Pot) (by_rule : List PlainPot)
    → map plain pots ≡ by_rule
    → AllPairs R by_rule
    → AllPairs (λ lower higher. R (plain lower) (plain higher)) pots
AllPairs-plain R pots by_rule e h i j d before inside =
    let long = length-map pots plain in
    let each : AllPairs R (map plain pots) = subst (AllPairs R) (sym e) h in
    let low = get_or-map plain pots i d (plain d) (omega arith) in
    let high = get_or-map plain pots j d (plain d) inside in
    subst (λ p. R p (plain (get_or pots j d))) low
    (subst (λ p. R (get_or (map plain pots) i (plain d)) p) high (each i j (plain d) before (omega arith)))

-- a seat that may win a pot is flagged in its row
pub flag-from_may_win : (pot : Pot) (n : ℕ) → may_win (plain pot) n ≡ true → flag_of pot.eligible n ≡ true
flag-from_may_win pot n h = flag-from_flagged pot.eligible n h

-- a flagged seat may win the pot
pub may_win-from_flag : (pot : Pot) (n : ℕ)
    → 1 ≤ n
    → flag_of pot.eligible n ≡ true
    → may_win (plain pot) n ≡ true
may_win-from_flag pot n low h = flagged-from_flag pot.eligible n low h

-- after the last pot there are no chips
pub no_chips_past : (pots : List PlainPot) (index : ℕ) → length pots ≤ index → option_map_or (λ pot. pot.chips) (slice_get pots index) 0 ≡ 0
no_chips_past [] index late = refl
no_chips_past (pot ∷ rest) zero late = absurd (omega (arith, late))
no_chips_past (pot ∷ rest) (suc index) late = no_chips_past rest index (omega (arith, late))
