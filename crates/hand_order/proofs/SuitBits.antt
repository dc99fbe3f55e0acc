-- The best flush and straight flush of a suit are read from the mask of its ranks.
use Rattle.std.proofs.Common.{◌≡◌, ℕ, zero, suc, ◌+◌, ◌*◌, ◌^◌, ◌%◌, ◌<◌, ◌≤◌, ◌==◌, ◌⊎◌, max, Bool, true, false, cond, List, [], ◌∷◌, length, inl, inr, refl, ap, arith, eq-eqb, w16}
use Rattle.std.specs.Int.{bit_not}
use Rattle.std.proofs.lemmas.Bool.{cases_lt, ne_eqb}
use Rattle.std.proofs.lemmas.Nat.{and_le_l}
use Rattle.std.proofs.lemmas.Nat.Bits.{bit_at_above}
use Rattle.card_set.specs.Ranks.{high_ace}
use Rattle.card_set.proofs.Counted.{IsHeight-high_ace}
use Rattle.hand_order.specs.declared.ladder.FlushRank.{FlushRank}
use Rattle.hand_order.specs.declared.straights.LowStraight.{LowStraight}
use Rattle.hand_order.specs.declared.straights.LowStraight.TheVariants as straights
use Rattle.hand_order.specs.Digits.{class_above, with_digits, AreDigits}
use Rattle.hand_order.specs.Ladder.{flush_class}
use Rattle.hand_order.specs.Patterns.{without, Fits, IsPicked, OfRanks, pattern}
use Rattle.hand_order.specs.StraightRanks.{HasStraight, topped}
use Rattle.hand_order.specs.SuitBest.{IsBestOfSuit}
use Rattle.hand_order.specs.Tops.{highest, lowered, tops, Shows}
use Rattle.hand_order.proofs.BestPatterns.{picked_digits}
use Rattle.hand_order.proofs.Digits.{number_below, with_digits-cons, with_digits-nil}
use Rattle.hand_order.proofs.Fits.{fits-length, picked_fits, picked_number}
use Rattle.hand_order.proofs.FittingChoices.{without_of_ranks}
use Rattle.hand_order.proofs.OwnRanks.{several}
use Rattle.hand_order.proofs.PlainHands.{ones_alone}
use Rattle.hand_order.proofs.ShownRanks.{different_heights, different_without, lowered_shows, top_shown, tops_picked}
use Rattle.hand_order.proofs.StraightBits.{has_list}
use Rattle.card_set.proofs.Bits.{top_set}

-- the highest bits are at most as many as the different heights
tops_few : (T : ℕ → ℕ) (n mask : ℕ) → OfRanks high_ace T → Shows mask 1 T → length (tops n mask) ≤ different_heights T
tops_few T zero mask of shows = omega arith
tops_few T (suc n) mask of shows =
    elim (cases_lt 0 mask) [
      | inl some ↦
          let h = highest mask + 2 in
          let shown = top_shown mask 1 T shows some in
          let fewer = different_without high_ace IsHeight-high_ace T h (of h (omega (arith, shown.0))) in
          let rest = tops_few (without T h) n (lowered mask) (without_of_ranks high_ace T h of) (lowered_shows mask 1 T (omega arith) some (omega arith) shows) in
          let here = ap (λ (b : Bool). length {A = ℕ} (cond b [] (h ∷ tops n (lowered mask)))) (ne_eqb mask 0 (λ none. omega arith)) in
          omega (arith, shown.0, fewer, rest, here)
      | inr none ↦
          let here = ap (λ (b : Bool). length {A = ℕ} (cond b [] ((highest mask + 2) ∷ tops n (lowered mask)))) (eq-eqb mask 0 (omega arith)) in
          omega (arith, here)
    ]

-- as many different heights as fit
fits_different : (T : ℕ → ℕ) (n : ℕ) (hs : List ℕ) → OfRanks high_ace T → Fits T (several n 1) hs → n ≤ different_heights T
fits_different T zero hs of fits = omega arith
fits_different T (suc n) [] of fits = absurd fits
fits_different T (suc n) (h ∷ hs) of fits =
    omega (arith, fits.0, different_without high_ace IsHeight-high_ace T h (of h (omega (arith, fits.0))), fits_different (without T h) n hs (without_of_ranks high_ace T h of) fits.1)

-- a mask of thirteen bits has heights up to fourteen
highest_few : (mask : ℕ) → 0 < mask → mask < 2 ^ 13 → highest mask + 2 < 16
highest_few mask some small =
    let set = top_set mask (highest mask) some (omega arith) refl in
    elim (cases_lt (highest mask) 13) [ inl few ↦ omega arith | inr many ↦ let none = bit_at_above mask 13 (highest mask) small many in absurd (omega arith) ]

pub tops_digits : (n mask : ℕ) → mask < 2 ^ 13 → AreDigits (tops n mask)
tops_digits zero mask small = tt
tops_digits (suc n) mask small =
    let rest = tops_digits n (lowered mask) (omega (arith, and_le_l mask (bit_not w16 (1 * 2 ^ highest mask % 2 ^ 16)), small)) in
    by_zero (mask == 0) refl rest
  where
    by_zero : (b : Bool) → (mask == 0) ≡ b → AreDigits (tops n (lowered mask)) → AreDigits (cond b [] ((highest mask + 2) ∷ tops n (lowered mask)))
    by_zero true is rest = tt
    by_zero false is rest = (highest_few mask (elim (cases_lt 0 mask) [ inl some ↦ some | inr none ↦ absurd (zero_not (eq-eqb mask 0 (omega arith)) is) ]) small, rest)
      where
        zero_not : (mask == 0) ≡ true → (mask == 0) ≡ false → ⊥
        zero_not zero_is other = cc

pub tops-le : (n mask : ℕ) → length (tops n mask) ≤ n
tops-le zero mask = omega arith
tops-le (suc n) mask = by_zero (mask == 0) (tops-le n (lowered mask))
  where
    by_zero : (b : Bool) → length (tops n (lowered mask)) ≤ n → length {A = ℕ} (cond b [] ((highest mask + 2) ∷ tops n (lowered mask))) ≤ suc n
    by_zero true rest = omega arith
    by_zero false rest = omega arith

-- the number of a suit's ranks is below the sixth place
pub tops_below : (n mask : ℕ) → n ≤ 5 → mask < 2 ^ 13 → with_digits 0 (tops n mask) < 16 ^ 5
tops_below n mask few small = number_below (tops n mask) (omega (arith, tops-le n mask)) (tops_digits n mask small)

-- a suit of fewer than five cards has no flush
pub suit_none : (flush : FlushRank) (low : LowStraight) (T : ℕ → ℕ) (mask : ℕ) → OfRanks high_ace T → Shows mask 1 T → length (tops 5 mask) < 5 → IsBestOfSuit flush low T 0
suit_none flush low T mask of shows few = record {
  flushes = λ hs fits digits. absurd (none hs fits);
  straights = λ top has. let found = has_list low T top has in absurd (none found.hs found.fits);
  reached = inl refl;
}
  where
    none : (hs : List ℕ) → Fits T (pattern 0) hs → ⊥
    none hs fits =
        let picked = tops_picked high_ace IsHeight-high_ace T 5 mask of shows (fits_different T 5 hs of fits) in
        absurd (omega (arith, fits-length T (several 5 1) (tops 5 mask) (picked_fits T (several 5 1) (tops 5 mask) picked)))

top_digit : (top : ℕ) → with_digits 0 (top ∷ []) ≡ top
top_digit top = omega (arith, with_digits-cons 0 top [], with_digits-nil (0 * 16 + top))

-- the points of a straight with a top
pub topped_some : (class top : ℕ) → (top ≡ 0 → ⊥) → topped class top ≡ class * 16 ^ 5 + top
topped_some class top some =
    let here = ap (λ (b : Bool). cond b 0 (class_above class (top ∷ []))) (ne_eqb top 0 some) in
    omega (arith, here, top_digit top)

straight_some : (low : LowStraight) (T : ℕ → ℕ) (top : ℕ) → HasStraight low T top → 0 < top
straight_some low T top (inl run) = omega (arith, run.0)
straight_some straights.FiveHigh T top (inr has) = omega (arith, has.0)
straight_some straights.NineHigh T top (inr has) = omega (arith, has.0)
straight_some straights.Nothing T top (inr has) = absurd has

-- a lower top makes at most as many points
pub topped_most : (low : LowStraight) (T : ℕ → ℕ) (class top found : ℕ) → HasStraight low T top → top ≤ found → class_above class (top ∷ []) ≤ topped class found
topped_most low T class top found has below =
    let some = straight_some low T top has in
    let here = ap (λ (b : Bool). cond b 0 (class_above class (found ∷ []))) (ne_eqb found 0 (λ none. omega arith)) in
    omega (arith, here, top_digit top, top_digit found)

pub topped-le : (class top : ℕ) → topped class top ≤ class_above class (top ∷ [])
topped-le class top = by_test (top == 0)
  where
    by_test : (b : Bool) → cond b 0 (class_above class (top ∷ [])) ≤ class_above class (top ∷ [])
    by_test true = omega arith
    by_test false = omega arith

pub topped_none : (class top : ℕ) → top ≡ 0 → topped class top ≡ 0
topped_none class top none = ap (λ (b : Bool). cond b 0 (class_above class (top ∷ []))) (eq-eqb top 0 none)

-- the best of a suit of five cards or more
pub suit_best : (flush : FlushRank) (low : LowStraight) (T : ℕ → ℕ) (mask found most : ℕ) → OfRanks high_ace T → Shows mask 1 T → 5 ≤ length (tops 5 mask) → ((top : ℕ) → HasStraight low T top → top ≤ found) → ((found ≡ 0) ⊎ HasStraight low T found) → most ≡ max (class_above (flush_class flush) (tops 5 mask)) (topped 8 found) → IsBestOfSuit flush low T most
suit_best flush low T mask found most of shows many above has is =
    let picked : IsPicked T (pattern 0) (tops 5 mask) = tops_picked high_ace IsHeight-high_ace T 5 mask of shows (omega (arith, tops_few T 5 mask of shows)) in
    let digits = picked_digits T (pattern 0) (tops 5 mask) of ones_alone.some picked in
    record {
      flushes = λ hs fits others. omega (arith, picked_number T T (pattern 0) (tops 5 mask) hs (λ h. omega arith) picked fits digits others);
      straights = λ top occurs. omega (arith, topped_most low T 8 top found occurs (above top occurs));
      reached = elim (cases_lt (class_above (flush_class flush) (tops 5 mask)) (topped 8 found)) [
        | inl straight ↦ elim has [
          | inl none ↦ absurd (omega (arith, topped_none 8 found none))
          | inr occurs ↦ inr (inr (record { top = found; occurs = occurs; reached = omega (arith, topped-le 8 found) }))
        ]
        | inr suited ↦ inr (inl (record { hs = tops 5 mask; fits = picked_fits T (pattern 0) (tops 5 mask) picked; digits = digits; reached = omega arith }))
      ];
    }
