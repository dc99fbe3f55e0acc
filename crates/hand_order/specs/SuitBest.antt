-- The best flush and straight flush of a suit, by the heights that occur in it.
use Rattle.std.specs.Prelude.{◌≡◌, ◌≤◌, ◌⊎◌, ℕ, List, [], ◌∷◌}
use Rattle.hand_order.specs.Digits.{class_above, AreDigits}
use Rattle.hand_order.specs.Ladder.{flush_class}
use Rattle.hand_order.specs.Patterns.{Fits, pattern}
use Rattle.hand_order.specs.StraightRanks.{HasStraight}
use Rattle.hand_order.specs.declared.ladder.FlushRank.{FlushRank}
use Rattle.hand_order.specs.declared.straights.LowStraight.{LowStraight}

-- a flush of the suit has at least this many points
pub record IsFlushOf (flush : FlushRank) (T : ℕ → ℕ) (least : ℕ) : Type 0 where
  pub hs : List ℕ
  pub fits : Fits T (pattern 0) hs
  pub digits : AreDigits hs
  pub reached : least ≤ class_above (flush_class flush) hs

-- a straight flush of the suit has at least this many points
pub record IsStraightOf (low : LowStraight) (T : ℕ → ℕ) (least : ℕ) : Type 0 where
  pub top : ℕ
  pub occurs : HasStraight low T top
  pub reached : least ≤ class_above 8 (top ∷ [])

-- no flush and no straight flush of the suit has more points, and one has exactly these; or there
-- is none
pub record IsBestOfSuit (flush : FlushRank) (low : LowStraight) (T : ℕ → ℕ) (most : ℕ) : Type 0
  where
    pub flushes : (hs : List ℕ) → Fits T (pattern 0) hs → AreDigits hs
        → class_above (flush_class flush) hs ≤ most
    pub straights : (top : ℕ) → HasStraight low T top → class_above 8 (top ∷ []) ≤ most
    pub reached : (most ≡ 0) ⊎ (IsFlushOf flush T most ⊎ IsStraightOf low T most)
