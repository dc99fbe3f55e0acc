-- Five falling heights that fit are the ranks of some choice, so a straight is found by its heights alone.
use Rattle.std.proofs.Common.{◌≡◌, ℕ, zero, suc, ◌<◌, ◌≤◌, ◌==◌, Bool, true, false, cond, List, [], ◌∷◌, sum_by, inl, inr, refl, sym, ◌∙◌, ap, subst, arith, eqb-true}
use Rattle.std.proofs.lemmas.Bool.{cases_lt}
use Rattle.card_set.specs.declared.card.Card.{Card}
use Rattle.card_set.specs.declared.card.Rank.{Rank}
use Rattle.card_set.specs.Ranks.{falling_heights, times, ranks_of, high_ace}
use Rattle.card_set.proofs.Counted.{IsHeight, IsHeight-high_ace, all_times}
use Rattle.hand_order.specs.Choices.{AreHeld}
use Rattle.hand_order.proofs.Fits.{fits-within}
use Rattle.hand_order.proofs.FittingChoices.{times_of_ranks, without_of_ranks, sum_without, total-le}
use Rattle.hand_order.proofs.OwnRanks.{several}
use Rattle.hand_order.proofs.PlainHands.{class_of, hand_picked}
use Rattle.hand_order.specs.Patterns.{without, Fits, IsPicked, OfRanks, total, AreSome, pattern}

-- heights below a bound, each below the one before it
abbrev pub FallingFrom : ℕ → List ℕ → Type 0
FallingFrom bound [] = Unit {0}
FallingFrom bound (h ∷ hs) = (h < bound) × FallingFrom h hs

-- a height above them takes nothing from them
pub fits_below : (T : ℕ → ℕ) (ns hs : List ℕ) (bound k : ℕ) → bound ≤ k → FallingFrom bound hs → Fits T ns hs → Fits (without T k) ns hs
fits_below T [] [] bound k above falling fits = tt
fits_below T [] (h ∷ hs) bound k above falling fits = fits
fits_below T (n ∷ ns) [] bound k above falling fits = fits
fits_below T (n ∷ ns) (h ∷ hs) bound k above falling fits =
    (here (k == h) refl, fits-within (without (without T h) k) (without (without T k) h) ns hs (λ j. swap (h == j) (k == j) (T j)) (fits_below (without T h) ns hs h k (omega (arith, falling.0)) falling.1 fits.1))
  where
    here : (b : Bool) → (k == h) ≡ b → n ≤ cond b 0 (T h)
    here true is = absurd (omega (arith, eqb-true k h is, falling.0))
    here false is = fits.0

    swap : (a b : Bool) (t : ℕ) → cond b 0 (cond a 0 t) ≤ cond a 0 (cond b 0 t)
    swap true true t = omega arith
    swap true false t = omega arith
    swap false true t = omega arith
    swap false false t = omega arith

some_several : (m n : ℕ) → 0 < n → AreSome (several m n)
some_several zero n some = tt
some_several (suc m) n some = (some, some_several m n some)

total_several : (m : ℕ) → total (several m 1) ≡ m
total_several zero = refl
total_several (suc m) = omega (arith, total_several m)

-- if as many fit as there are, falling ones are picked
pub falling_picked : (height : Rank → ℕ) → IsHeight height → (T : ℕ → ℕ) (m bound : ℕ) (hs : List ℕ) → OfRanks height T → Fits T (several m 1) hs → sum_by T falling_heights ≡ m → FallingFrom bound hs → IsPicked T (several m 1) hs
falling_picked height is T zero bound [] of fits all falling = tt
falling_picked height is T zero bound (h ∷ hs) of fits all falling = fits
falling_picked height is T (suc m) bound [] of fits all falling = fits
falling_picked height is T (suc m) bound (h ∷ hs) of fits all falling =
    let here = of h (omega (arith, fits.0)) in
    let split = sum_without height is T h here in
    let least = total-le height is (without T h) (several m 1) hs (without_of_ranks height T h of) (some_several m 1 (omega arith)) fits.1 in (
      fits.0,
      (λ k some. elim (cases_lt h k) [
        | inl above ↦
            let more = total-le height is T (several (suc (suc m)) 1) (k ∷ h ∷ hs) of (some_several (suc (suc m)) 1 (omega arith)) (some, fits_below T (several (suc m) 1) (h ∷ hs) (suc h) k (omega arith) (omega arith, falling.1) fits) in
            absurd (omega (arith, total_several m))
        | inr within ↦ within
      ]),
      falling_picked height is (without T h) m h hs (without_of_ranks height T h of) fits.1 (omega (arith, fits.0, total_several m)) falling.1,
    )

-- only one list is picked
pub picked_same : (T : ℕ → ℕ) (ns hs ks : List ℕ) → IsPicked T ns hs → IsPicked T ns ks → hs ≡ ks
picked_same T [] [] [] one other = refl
picked_same T [] [] (k ∷ ks) one other = absurd other
picked_same T [] (h ∷ hs) ks one other = absurd one
picked_same T (n ∷ ns) [] ks one other = absurd one
picked_same T (n ∷ ns) (h ∷ hs) [] one other = absurd other
picked_same T (n ∷ ns) (h ∷ hs) (k ∷ ks) one other =
    let above = other.1 h one.0 in
    let below = one.1 k other.0 in
    let same : k ≡ h = omega arith in
    ap (λ (l : List ℕ). h ∷ l) (picked_same (without T h) ns hs ks one.2 (subst (λ (x : ℕ). IsPicked (without T x) ns ks) same other.2))
    ∙ ap (λ (x : ℕ). x ∷ ks) (sym same)

-- a hand that falling heights fit has these ranks
pub ranks_exactly : (cards : List Card) (hs : List ℕ) (bound : ℕ) → AreHeld 5 cards → class_of cards ≡ 0 → Fits (times high_ace cards) (pattern 0) hs → FallingFrom bound hs → ranks_of high_ace cards ≡ hs
ranks_exactly cards hs bound held class fits falling =
    let own = subst (λ (m : ℕ). IsPicked (times high_ace cards) (pattern m) (ranks_of high_ace cards)) class (hand_picked cards held) in
    picked_same (times high_ace cards) (pattern 0) (ranks_of high_ace cards) hs own
    (falling_picked high_ace IsHeight-high_ace (times high_ace cards) 5 bound hs (times_of_ranks high_ace cards) fits (all_times high_ace IsHeight-high_ace cards ∙ held.0) falling)
