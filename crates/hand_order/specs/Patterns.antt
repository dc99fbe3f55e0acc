-- How heights fit given counts, and the patterns of hands without straights and flushes.
use Rattle.std.specs.Prelude.{◌≡◌, ℕ, ◌+◌, ◌-◌, ◌<◌, ◌≤◌, ◌==◌, false, List, [], ◌∷◌, cond, sum_by}
use Rattle.card_set.specs.declared.card.Rank.{Rank}
use Rattle.card_set.specs.Classes.{classes_above}
use Rattle.card_set.specs.Ranks.{falling_heights, high_ace}
use Rattle.hand_order.specs.Tables.{high_table}
use Rattle.hand_order.specs.Digits.{AreDigits, with_digits}

-- the counts without those of one height
abbrev pub without : (ℕ → ℕ) → ℕ → ℕ → ℕ
without T h k = cond (h == k) 0 (T k)

-- each count is at most the other one
abbrev pub Within : (ℕ → ℕ) → (ℕ → ℕ) → Type 0
Within T U = (h : ℕ) → T h ≤ U h

-- different heights, the first of which occurs as often as the first number says, and so on
abbrev pub Fits : (ℕ → ℕ) → List ℕ → List ℕ → Type 0
Fits T [] [] = Unit {0}
Fits T [] (h ∷ hs) = ⊥
Fits T (n ∷ ns) [] = ⊥
Fits T (n ∷ ns) (h ∷ hs) = (n ≤ T h) × Fits (without T h) ns hs

-- and each is the highest that fits after those before it
abbrev pub IsPicked : (ℕ → ℕ) → List ℕ → List ℕ → Type 0
IsPicked T [] [] = Unit {0}
IsPicked T [] (h ∷ hs) = ⊥
IsPicked T (n ∷ ns) [] = ⊥
IsPicked T (n ∷ ns) (h ∷ hs) =
    (n ≤ T h) × ((k : ℕ) → n ≤ T k → k ≤ h) × IsPicked (without T h) ns hs

-- a rank has this height
abbrev pub IsOfRank : (Rank → ℕ) → ℕ → Type 0
IsOfRank height h = (rank : Rank) × (height rank ≡ h)

-- only heights of ranks occur
abbrev pub OfRanks : (Rank → ℕ) → (ℕ → ℕ) → Type 0
OfRanks height T = (h : ℕ) → 0 < T h → IsOfRank height h

-- the sum of the numbers
abbrev pub total : List ℕ → ℕ
total [] = 0
total (n ∷ ns) = n + total ns

-- none of the numbers is zero
abbrev pub AreSome : List ℕ → Type 0
AreSome [] = Unit {0}
AreSome (n ∷ ns) = (0 < n) × AreSome ns

-- how often a number occurs in a list
abbrev pub among_numbers : ℕ → List ℕ → ℕ
among_numbers n [] = 0
among_numbers n (m ∷ ms) = cond (m == n) 1 0 + among_numbers n ms

-- the class of a hand by how often its ranks occur, without straights and flushes
abbrev pub plain_class : ℕ → ℕ → ℕ → ℕ
plain_class four three two = 8 - classes_above (high_table four three two false false)

-- how often the ranks occur in each class
abbrev pub pattern : ℕ → List ℕ
pattern k =
    cond (k == 7) (4 ∷ 1 ∷ [])
    (cond (k == 6) (3 ∷ 2 ∷ [])
    (cond (k == 3) (3 ∷ 1 ∷ 1 ∷ [])
    (cond (k == 2) (2 ∷ 2 ∷ 1 ∷ [])
    (cond (k == 1) (2 ∷ 1 ∷ 1 ∷ 1 ∷ []) (1 ∷ 1 ∷ 1 ∷ 1 ∷ 1 ∷ [])))))

-- the class has a pattern of its own
pub record IsPattern (k : ℕ) : Type 0 where
  pub some : AreSome (pattern k)
  pub five : total (pattern k) ≡ 5
  pub class :
      plain_class (among_numbers 4 (pattern k)) (among_numbers 3 (pattern k))
      (among_numbers 2 (pattern k))
      ≡ k

-- the heights that the best pattern that fits picks
pub record IsBestPattern (T : ℕ → ℕ) (k : ℕ) (hs : List ℕ) : Type 0 where
  pub kind : IsPattern k
  pub picked : IsPicked T (pattern k) hs
  pub digits : AreDigits hs
  pub none : (j : ℕ) (ks : List ℕ) → IsPattern j → k < j → Fits T (pattern j) ks → ⊥

-- the digits of a number are the heights that the best pattern that fits picks
pub record IsBestNumber (T : ℕ → ℕ) (k number : ℕ) : Type 0 where
  pub hs : List ℕ
  pub best : IsBestPattern T k hs
  pub written : number ≡ with_digits 0 hs

-- the counts of at least five cards
pub record AreCounts (T : ℕ → ℕ) : Type 0 where
  pub ranked : OfRanks high_ace T
  pub four : (h : ℕ) → T h ≤ 4
  pub five : 5 ≤ sum_by T falling_heights
