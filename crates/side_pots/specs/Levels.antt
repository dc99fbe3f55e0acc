-- The levels of a hand above a number of chips.
use Rattle.std.specs.Prelude.{◌≡◌, ◌<◌, ◌↔◌, ℕ, true, List, nat_lt, filter, AllPairs, Any, Contains}
use Rattle.chip_ledger.specs.Pots.{Stake, levels}

-- the levels above this number of chips, rising
abbrev pub levels_above : List Stake → ℕ → List ℕ
levels_above stakes below = filter (nat_lt below) (levels stakes)

-- these are the levels of some stakes: each is below all later ones, and they are exactly the
-- amounts above 0 of live seats
pub record AreLevels (stakes : List Stake) (xs : List ℕ) : Type 0 where
  pub rising : AllPairs (λ x y. x < y) xs
  pub exact : (x : ℕ)
      → Contains xs x ↔ ((0 < x) × Any (λ (s : Stake). (s.live ≡ true) × (s.chips ≡ x)) stakes)
