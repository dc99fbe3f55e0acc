-- The ways in which ranks occur among at most five cards, and what each class of hands says of the
-- number of ranks.
use Rattle.std.proofs.Common.{◌≡◌, ℕ, zero, suc, ◌+◌, ◌*◌, ◌<◌, ◌≤◌, Bool, true, false, refl, subst, arith}

-- what holds in each way in which ranks occur holds for all hands of at most five cards
pub by_counts : (P : ℕ → ℕ → ℕ → ℕ → Type 0) → ((one : ℕ) → P 1 0 0 one) → ((one : ℕ) → P 0 1 1 one) → ((one : ℕ) → P 0 1 0 one) → ((one : ℕ) → P 0 0 2 one) → ((one : ℕ) → P 0 0 1 one) → ((one : ℕ) → P 0 0 0 one) → (four three two one : ℕ) → 4 * four + 3 * three + 2 * two + one ≤ 5 → P four three two one
by_counts P quads full trips pairs pair none zero zero zero one few = none one
by_counts P quads full trips pairs pair none zero zero (suc zero) one few = pair one
by_counts P quads full trips pairs pair none zero zero (suc (suc zero)) one few = pairs one
by_counts P quads full trips pairs pair none zero zero (suc (suc (suc two))) one few = absurd (omega arith)
by_counts P quads full trips pairs pair none zero (suc zero) zero one few = trips one
by_counts P quads full trips pairs pair none zero (suc zero) (suc zero) one few = full one
by_counts P quads full trips pairs pair none zero (suc zero) (suc (suc two)) one few = absurd (omega arith)
by_counts P quads full trips pairs pair none zero (suc (suc three)) two one few = absurd (omega arith)
by_counts P quads full trips pairs pair none (suc zero) zero zero one few = quads one
by_counts P quads full trips pairs pair none (suc zero) zero (suc two) one few = absurd (omega arith)
by_counts P quads full trips pairs pair none (suc zero) (suc three) two one few = absurd (omega arith)
by_counts P quads full trips pairs pair none (suc (suc four)) three two one few = absurd (omega arith)

-- a straight or a flush has five ranks, so it has no pair
abbrev pub OfFive : (ℕ → ℕ → ℕ → ℕ → Bool → Bool → Type 0) → ℕ → ℕ → ℕ → ℕ → Type 0
OfFive P four three two one = (straight flush : Bool) → 4 * four + 3 * three + 2 * two + one ≡ 5 → (straight ≡ true → four + three + two + one ≡ 5) → (flush ≡ true → four + three + two + one ≡ 5) → P four three two one straight flush

-- what holds in each way in which ranks occur, and of straights and flushes, holds for all hands of five cards
pub by_shape : (P : ℕ → ℕ → ℕ → ℕ → Bool → Bool → Type 0) → P 1 0 0 1 false false → P 0 1 1 0 false false → P 0 1 0 2 false false → P 0 0 2 1 false false → P 0 0 1 3 false false → ((straight flush : Bool) → P 0 0 0 5 straight flush) → (four three two one : ℕ) → OfFive P four three two one
by_shape P quads full trips pairs pair none four three two one straight flush five straights flushes =
    by_counts (OfFive P)
    (plain P 1 0 0 1 quads (omega arith) (omega arith)) (plain P 0 1 1 0 full (omega arith) (omega arith)) (plain P 0 1 0 2 trips (omega arith) (omega arith)) (plain P 0 0 2 1 pairs (omega arith) (omega arith)) (plain P 0 0 1 3 pair (omega arith) (omega arith))
    (λ singles straight flush five straights flushes. subst (λ (n : ℕ). P 0 0 0 n straight flush) (omega arith) (none straight flush))
    four three two one (omega arith) straight flush five straights flushes
  where
    plain : (P : ℕ → ℕ → ℕ → ℕ → Bool → Bool → Type 0) (four three two one : ℕ) → P four three two one false false → four + three + two + one < 5 → 4 * four + 3 * three + 2 * two + one ≡ 5 → (singles : ℕ) → OfFive P four three two singles
    plain P four three two one holds few five singles false false all straights flushes = subst (λ (n : ℕ). P four three two n false false) (omega arith) holds
    plain P four three two one holds few five singles true flush all straights flushes = absurd (omega (arith, straights refl))
    plain P four three two one holds few five singles false true all straights flushes = absurd (omega (arith, flushes refl))
