-- Heights that are picked from counts: the greatest that occurs often enough, then the greatest of the others, and so on.
use Rattle.std.proofs.Common.{◌≡◌, ℕ, ◌+◌, ◌≤◌, ◌==◌, Bool, true, false, cond, List, [], ◌∷◌, length, ◌⊎◌, inl, inr, refl, sym, ◌∙◌, ap, subst, arith, eqb-true, eq-eqb}
use Rattle.std.proofs.lemmas.Bool.{cases_lt}
use Rattle.card_set.specs.Classes.{IsLower}
use Rattle.hand_order.specs.Digits.{with_digits}
use Rattle.hand_order.proofs.Digits.{AreDigits, same_before}
use Rattle.hand_order.specs.Patterns.{without, Within, Fits, IsPicked}

without-within : (T U : ℕ → ℕ) (h : ℕ) → Within T U → Within (without T h) (without U h)
without-within T U h within k = by_test (h == k)
  where
    by_test : (b : Bool) → cond b 0 (T k) ≤ cond b 0 (U k)
    by_test true = omega arith
    by_test false = within k

-- what fits still fits if heights occur more often
pub fits-within : (T U : ℕ → ℕ) (ns hs : List ℕ) → Within T U → Fits T ns hs → Fits U ns hs
fits-within T U [] [] within fits = tt
fits-within T U [] (h ∷ hs) within fits = fits
fits-within T U (n ∷ ns) [] within fits = fits
fits-within T U (n ∷ ns) (h ∷ hs) within fits = (omega (arith, fits.0, within h), fits-within (without T h) (without U h) ns hs (without-within T U h within) fits.1)

pub picked_fits : (T : ℕ → ℕ) (ns hs : List ℕ) → IsPicked T ns hs → Fits T ns hs
picked_fits T [] [] picked = tt
picked_fits T [] (h ∷ hs) picked = picked
picked_fits T (n ∷ ns) [] picked = picked
picked_fits T (n ∷ ns) (h ∷ hs) picked = (picked.0, picked_fits (without T h) ns hs picked.2)

pub fits-length : (T : ℕ → ℕ) (ns hs : List ℕ) → Fits T ns hs → length hs ≡ length ns
fits-length T [] [] fits = refl
fits-length T [] (h ∷ hs) fits = absurd fits
fits-length T (n ∷ ns) [] fits = absurd fits
fits-length T (n ∷ ns) (h ∷ hs) fits = omega (arith, fits-length (without T h) ns hs fits.1)

-- what is picked is the highest that fits
pub picked_best : (T U : ℕ → ℕ) (ns hs ks : List ℕ) → Within U T → IsPicked T ns hs → Fits U ns ks → (ks ≡ hs) ⊎ IsLower ks hs
picked_best T U [] [] [] within picked fits = inl refl
picked_best T U [] [] (k ∷ ks) within picked fits = absurd fits
picked_best T U [] (h ∷ hs) ks within picked fits = absurd picked
picked_best T U (n ∷ ns) [] ks within picked fits = absurd picked
picked_best T U (n ∷ ns) (h ∷ hs) [] within picked fits = absurd fits
picked_best T U (n ∷ ns) (h ∷ hs) (k ∷ ks) within picked fits =
    let most = picked.1 k (omega (arith, fits.0, within k)) in
    elim (cases_lt k h) [
      | inl less ↦ inr (inl less)
      | inr least ↦
          let same : k ≡ h = omega arith in
          let rest = subst (λ (x : ℕ). Fits (without U x) ns ks) same fits.1 in
          elim (picked_best (without T h) (without U h) ns hs ks (without-within U T h within) picked.2 rest) [
            | inl equal ↦ inl (ap (λ (x : ℕ). x ∷ ks) same ∙ ap (λ (l : List ℕ). h ∷ l) equal)
            | inr lower ↦ inr (inr (same, lower))
          ]
    ]

-- and makes the greatest number
pub picked_number : (T U : ℕ → ℕ) (ns hs ks : List ℕ) → Within U T → IsPicked T ns hs → Fits U ns ks → AreDigits hs → AreDigits ks → with_digits 0 ks ≤ with_digits 0 hs
picked_number T U ns hs ks within picked fits digits others =
    elim (picked_best T U ns hs ks within picked fits) [
      | inl equal ↦ let same = ap (with_digits 0) equal in omega arith
      | inr lower ↦
          let less = (same_before 0 ks hs (fits-length U ns ks fits ∙ sym (fits-length T ns hs (picked_fits T ns hs picked))) others digits).1 lower in
          omega arith
    ]

-- this number of cards of the heights is needed
abbrev pub needs : List ℕ → List ℕ → ℕ → ℕ
needs [] hs k = 0
needs (n ∷ ns) [] k = 0
needs (n ∷ ns) (h ∷ hs) k = cond (h == k) n 0 + needs ns hs k

-- if heights fit, at most what is there is needed
pub fits_needs : (T : ℕ → ℕ) (ns hs : List ℕ) → Fits T ns hs → Within (needs ns hs) T
fits_needs T [] hs fits k = omega arith
fits_needs T (n ∷ ns) [] fits k = omega arith
fits_needs T (n ∷ ns) (h ∷ hs) fits k =
    let rest : needs ns hs k ≤ without T h k = fits_needs (without T h) ns hs fits.1 k in
    by_test (h == k) refl rest
  where
    by_test : (b : Bool) → (h == k) ≡ b → needs ns hs k ≤ cond b 0 (T k) → cond b n 0 + needs ns hs k ≤ T k
    by_test true is rest = let same = ap T (eqb-true h k is) in omega (arith, fits.0, same)
    by_test false is rest = omega arith

-- and what is needed fits
pub needs_fit : (T : ℕ → ℕ) (ns hs : List ℕ) → Fits T ns hs → Fits (needs ns hs) ns hs
needs_fit T [] [] fits = tt
needs_fit T [] (h ∷ hs) fits = fits
needs_fit T (n ∷ ns) [] fits = fits
needs_fit T (n ∷ ns) (h ∷ hs) fits =
    let here = ap (λ (b : Bool). cond {A = ℕ} b n 0) (eq-eqb h h refl) in
    (omega (arith, here), fits-within (needs ns hs) (without (needs (n ∷ ns) (h ∷ hs)) h) ns hs (λ k. more k (h == k) refl) (needs_fit (without T h) ns hs fits.1))
  where
    more : (k : ℕ) (b : Bool) → (h == k) ≡ b → needs ns hs k ≤ cond b 0 (cond b n 0 + needs ns hs k)
    more k true is =
        let none = fits_needs (without T h) ns hs fits.1 k in
        let zero_here = ap (λ (b : Bool). cond b 0 (T k)) is in
        omega (arith, none, zero_here)
    more k false is = omega arith
