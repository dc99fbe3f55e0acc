-- The choices of badugi, over bit masks of the ranks of each suit: bit 0 is the two, bit 12 the
-- ace.
use Rattle.std.specs.Prelude.{◌≡◌, ◌≤◌, ◌⊎◌, ℕ, ◌-◌, ◌*◌, ◌^◌, ◌%◌, List, [], ◌∷◌, length}
use Rattle.std.specs.Int.{bit_at, bit_not, w16}
use lib.Bits.{bit_and, bit_or}
use Rattle.hand_order.specs.Digits.{class_above}
use Rattle.hand_order.specs.Lowest.{has_height, lowest}

-- the four lowest ranks of a mask, the greatest first
unfoldable pub ranks_in : ℕ → List ℕ
ranks_in mask = lowest (has_height mask) 13 1 4

-- the points of a choice whose ranks are those of a mask
abbrev pub points_of_ranks : ℕ → ℕ
points_of_ranks taken = 16 ^ 6 - class_above (4 - length (ranks_in taken)) (ranks_in taken)

-- one more of the ranks that are left is taken, or none
abbrev pub TakesOne : ℕ → ℕ → ℕ → Type 0
TakesOne left taken more =
    (more ≡ taken)
    ⊎ ((place : ℕ) × (bit_at left place ≡ 1) × (more ≡ bit_or taken (1 * 2 ^ place % 2 ^ 16)))

-- with the ranks taken so far these ranks can be had: at most one of those left, and of each other
-- suit at most one that is still free
abbrev pub CanTake : ℕ → List ℕ → ℕ → ℕ → Type 0
CanTake left [] taken ranks = TakesOne left taken ranks
CanTake left (mask ∷ others) taken ranks =
    (more : ℕ) × TakesOne left taken more
    × CanTake (bit_and mask (bit_not w16 more)) others more ranks

-- no ranks that can be had make more points, and some make as many
pub record IsMost (left : ℕ) (others : List ℕ) (taken most : ℕ) : Type 0 where
  pub ranks : ℕ
  pub can : CanTake left others taken ranks
  pub reached : points_of_ranks ranks ≡ most
  pub none_more : (other : ℕ) → CanTake left others taken other → points_of_ranks other ≤ most
