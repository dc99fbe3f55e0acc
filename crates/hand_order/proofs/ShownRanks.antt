-- What masks show is picked by their highest bits.
use Rattle.std.proofs.Common.{◌≡◌, ◌↔◌, ℕ, zero, suc, ◌+◌, ◌-◌, ◌*◌, ◌^◌, ◌%◌, ◌<◌, ◌≤◌, ◌==◌, min, Bool, true, false, cond, [], ◌∷◌, sum_by, inl, inr, refl, sym, ◌∙◌, ap, subst, arith, eqb-true, w16}
use Rattle.std.specs.Int.{bit_at, bit_not}
use Rattle.std.proofs.lemmas.Bool.{cases_lt, eqb-false}
use Rattle.std.proofs.lemmas.Nat.{and_le_l}
use Rattle.std.proofs.lemmas.Nat.Bits.{bit_at-zero}
use Rattle.card_set.specs.declared.card.Rank.{Rank}
use Rattle.card_set.specs.Ranks.{falling_heights}
use Rattle.card_set.proofs.Counted.{IsHeight}
use Rattle.hand_order.specs.Tops.{highest, lowered, tops, Shows}
use Rattle.hand_order.proofs.FittingChoices.{without_of_ranks, sum_without}
use Rattle.hand_order.proofs.OwnRanks.{several}
use Rattle.hand_order.specs.Patterns.{without, IsPicked, IsOfRank, OfRanks}
use Rattle.card_set.proofs.Bits.{cleared, top_highest, top_set}
use Rattle.card_set.proofs.Sums.{sum_by-same, none_occur}

-- the highest bit that is shown
pub top_shown : (mask n : ℕ) (T : ℕ → ℕ) → Shows mask n T → 0 < mask → (n ≤ T (highest mask + 2)) × ((h : ℕ) → n ≤ T h → h ≤ highest mask + 2)
top_shown mask n T shows some = (
  (shows.each (highest mask)).0 (top_set mask (highest mask) some shows.small refl),
  λ h often.
      let past = shows.past h often in
      let back : (h - 2) + 2 ≡ h = omega arith in
      let set = (shows.each (h - 2)).1 (subst (λ (k : ℕ). n ≤ T k) (sym back) often) in
      omega (arith, top_highest mask (highest mask) (h - 2) some shows.small refl set),
)

-- without the highest bit the others are shown
pub lowered_shows : (mask n : ℕ) (T : ℕ → ℕ) → 0 < n → 0 < mask → highest mask < 16 → Shows mask n T → Shows (lowered mask) n (without T (highest mask + 2))
lowered_shows mask n T positive some within shows = record {
  each = λ k. each k (highest mask == k) refl (highest mask + 2 == k + 2) refl;
  past = λ h often. past h (highest mask + 2 == h) often;
  small = omega (arith, and_le_l mask (bit_not w16 (1 * 2 ^ highest mask % 2 ^ 16)), shows.small);
}
  where
    past : (h : ℕ) (b : Bool) → n ≤ cond b 0 (T h) → 2 ≤ h
    past h true often = absurd (omega arith)
    past h false often = shows.past h often

    each : (k : ℕ) (a : Bool) → (highest mask == k) ≡ a → (b : Bool) → (highest mask + 2 == k + 2) ≡ b → (bit_at (lowered mask) k ≡ 1) ↔ (n ≤ cond b 0 (T (k + 2)))
    each k true is true other =
        let off = cleared mask (highest mask) k shows.small within ∙ ap (λ (t : Bool). cond t 0 (bit_at mask k)) is in
        (λ set. absurd (omega (arith, off)), λ often. absurd (omega arith))
    each k true is false other = absurd (eqb-false (highest mask + 2) (k + 2) other (omega (arith, eqb-true (highest mask) k is)))
    each k false is true other = absurd (eqb-false (highest mask) k is (omega (arith, eqb-true (highest mask + 2) (k + 2) other)))
    each k false is false other =
        let same = cleared mask (highest mask) k shows.small within ∙ ap (λ (t : Bool). cond t 0 (bit_at mask k)) is in
        (λ set. (shows.each k).0 (sym same ∙ set), λ often. same ∙ (shows.each k).1 often)

-- the number of different heights
abbrev pub different_heights : (ℕ → ℕ) → ℕ
different_heights T = sum_by (λ h. min 1 (T h)) falling_heights

-- one height fewer
pub different_without : (height : Rank → ℕ) → IsHeight height → (T : ℕ → ℕ) (h : ℕ) → IsOfRank height h → different_heights T ≡ min 1 (T h) + different_heights (without T h)
different_without height is T h of =
    let split = sum_without height is (λ k. min 1 (T k)) h of in
    let same = sum_by-same (without (λ k. min 1 (T k)) h) (λ k. min 1 (without T h k)) (λ k. here (h == k) (T k)) falling_heights in
    omega (arith, split, same)
  where
    here : (b : Bool) (t : ℕ) → cond b 0 (min 1 t) ≡ min 1 (cond b 0 t)
    here true t = refl
    here false t = refl

fewer_heights : (height : Rank → ℕ) → IsHeight height → (T : ℕ → ℕ) (h : ℕ) → IsOfRank height h → different_heights T ≤ 1 + different_heights (without T h)
fewer_heights height is T h of = omega (arith, different_without height is T h of)

-- a mask that shows some height is not zero
shows_some : (mask : ℕ) (T : ℕ → ℕ) → Shows mask 1 T → 0 < different_heights T → 0 < mask
shows_some mask T shows some =
    elim (cases_lt 0 mask) [
      | inl positive ↦ positive
      | inr zero_mask ↦
          let is : mask ≡ 0 = omega arith in
          let none = none_occur T falling_heights (λ h. elim (cases_lt 0 (T h)) [
            | inl occurs ↦
                let past = shows.past h occurs in
                let back : (h - 2) + 2 ≡ h = omega arith in
                let set = (shows.each (h - 2)).1 (subst (λ (k : ℕ). 1 ≤ T k) (sym back) occurs) in
                let off = ap (λ (m : ℕ). bit_at m (h - 2)) is ∙ bit_at-zero (h - 2) in
                absurd (omega arith)
            | inr absent ↦ omega arith
          ]) in
          absurd (omega arith)
    ]

-- the highest bits are picked
pub tops_picked : (height : Rank → ℕ) → IsHeight height → (T : ℕ → ℕ) (n mask : ℕ) → OfRanks height T → Shows mask 1 T → n ≤ different_heights T → IsPicked T (several n 1) (tops n mask)
tops_picked height is T zero mask of shows enough = tt
tops_picked height is T (suc n) mask of shows enough =
    let some = shows_some mask T shows (omega arith) in
    let shown = top_shown mask 1 T shows some in
    let rest = tops_picked height is (without T (highest mask + 2)) n (lowered mask) (without_of_ranks height T (highest mask + 2) of) (lowered_shows mask 1 T (omega arith) some (omega arith) shows) (omega (arith, fewer_heights height is T (highest mask + 2) (of (highest mask + 2) (omega (arith, shown.0))))) in
    by_zero (mask == 0) refl some (shown.0, shown.1, rest)
  where
    by_zero : (b : Bool) → (mask == 0) ≡ b → 0 < mask → IsPicked T (several (suc n) 1) ((highest mask + 2) ∷ tops n (lowered mask)) → IsPicked T (several (suc n) 1) (cond b [] ((highest mask + 2) ∷ tops n (lowered mask)))
    by_zero true is_zero positive picked = absurd (omega (arith, eqb-true mask 0 is_zero))
    by_zero false is_zero positive picked = picked
