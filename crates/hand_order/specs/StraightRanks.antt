-- Straights by the heights that occur, and among the bits of a mask.
use Rattle.std.specs.Prelude.{◌≡◌, ◌<◌, ◌≤◌, ◌==◌, ◌&&◌, ◌⊎◌, ℕ, ◌+◌, ◌-◌, Bool, [], ◌∷◌, if◌then◌else◌}
use Rattle.std.specs.Int.{bit_at}
use Rattle.hand_order.specs.Digits.{class_above}
use Rattle.hand_order.specs.declared.straights.LowStraight.{LowStraight}
use Rattle.hand_order.specs.declared.straights.LowStraight.TheVariants as straights

-- five bits in a row are set, from this one up
abbrev pub IsRunFrom : ℕ → ℕ → Type 0
IsRunFrom mask k =
    (bit_at mask k ≡ 1) × (bit_at mask (k + 1) ≡ 1) × (bit_at mask (k + 2) ≡ 1)
    × (bit_at mask (k + 3) ≡ 1) × (bit_at mask (k + 4) ≡ 1)

-- five heights in a row occur, down from this one
abbrev pub HasRun : (ℕ → ℕ) → ℕ → Type 0
HasRun T top =
    (6 ≤ top) × (0 < T top) × (0 < T (top - 1)) × (0 < T (top - 2)) × (0 < T (top - 3))
    × (0 < T (top - 4))

-- the bit of the ace is set, and four in a row from this one up
abbrev pub has_ace_and_four : ℕ → ℕ → Bool
has_ace_and_four mask least =
    bit_at mask 12 == 1 && bit_at mask least == 1 && bit_at mask (least + 1) == 1
    && bit_at mask (least + 2) == 1 && bit_at mask (least + 3) == 1

-- the heights of the straight that the ace begins occur, and this is its top
abbrev pub HasLow : LowStraight → (ℕ → ℕ) → ℕ → Type 0
HasLow straights.FiveHigh T top =
    (top ≡ 5) × (0 < T 14) × (0 < T 5) × (0 < T 4) × (0 < T 3) × (0 < T 2)
HasLow straights.NineHigh T top =
    (top ≡ 9) × (0 < T 14) × (0 < T 9) × (0 < T 8) × (0 < T 7) × (0 < T 6)
HasLow straights.Nothing T top = ⊥

-- the heights of a straight with this top occur
abbrev pub HasStraight : LowStraight → (ℕ → ℕ) → ℕ → Type 0
HasStraight low T top = HasRun T top ⊎ HasLow low T top

-- a class above the top of a straight, or 0 if there is no straight
abbrev pub topped : ℕ → ℕ → ℕ
topped class top = if top == 0 then 0 else class_above class (top ∷ [])
