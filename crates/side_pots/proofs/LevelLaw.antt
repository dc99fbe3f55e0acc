-- The levels are the chips of live seats, in the words of lists.
use Rattle.std.proofs.Common.{◌≡◌, ℕ, ◌<◌, true, ◌&&◌, ◌==◌, List, nat_lt, sym, ◌∙◌, arith}
use Rattle.std.specs.List.{Any, list_any}
use Rattle.std.proofs.lemmas.Bool.{and_from, and_parts, eq-eqb, eqb-true, lt-ltb, ltb-true}
use Rattle.std.proofs.lemmas.List.Folds.{Any-from_list_any, list_any-from_Any}
use Rattle.card_set.proofs.Rising.{pairs_rise}
use Rattle.card_set.proofs.Any.{any_from_contains, contains_from_any}
use Rattle.chip_ledger.specs.Pots.{Stake, levels}
use Rattle.chip_ledger.proofs.PotLevels.{Rising-levels, list_any-levels, makes_level}
use Rattle.side_pots.specs.Levels.{AreLevels}

-- a live seat has these chips, which are above 0
abbrev HasChips : List Stake → ℕ → Type 0
HasChips stakes x = (0 < x) × Any (λ (s : Stake). (s.live ≡ true) × (s.chips ≡ x)) stakes

chips_from_any : (stakes : List Stake) (x : ℕ)
    → list_any (λ s. makes_level s && (s.chips == x)) stakes ≡ true
    → HasChips stakes x
chips_from_any stakes x h =
    let one = Any-from_list_any (λ s. makes_level s && (s.chips == x)) stakes h in
    let s = one.1 in
    let parts = and_parts (makes_level s) (s.chips == x) one.4 in
    let both = and_parts s.live (nat_lt 0 s.chips) parts.0 in
    let same = eqb-true s.chips x parts.1 in
    let some = ltb-true 0 s.chips both.1 in
    (omega arith, (one.0, s, one.2, one.3, (both.0, same)))

any_from_chips : (stakes : List Stake) (x : ℕ)
    → HasChips stakes x
    → list_any (λ s. makes_level s && (s.chips == x)) stakes ≡ true
any_from_chips stakes x (some, (k, s, inside, at, (is_live, same))) =
    let level = and_from s.live (nat_lt 0 s.chips) is_live (lt-ltb 0 s.chips (omega arith)) in
    list_any-from_Any (λ s. makes_level s && (s.chips == x)) stakes
    (k, s, inside, at, and_from (makes_level s) (s.chips == x) level (eq-eqb s.chips x same))

pub levels-AreLevels : (stakes : List Stake) → AreLevels stakes (levels stakes)
levels-AreLevels stakes =
    record {
      rising = pairs_rise 1 (levels stakes) (Rising-levels stakes);
      exact = λ x.
          (λ h. chips_from_any stakes x (sym (list_any-levels (λ y. y == x) stakes) ∙ any_from_contains (levels stakes) x h), λ h. contains_from_any (levels stakes) x (list_any-levels (λ y. y == x) stakes ∙ any_from_chips stakes x h));
    }
