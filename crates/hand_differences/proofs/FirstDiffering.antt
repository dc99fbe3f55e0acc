-- The first number at which lists differ: before it they are the same, and at it they differ.
use Rattle.std.proofs.Common.{◌≡◌, ◌≢◌, ℕ, zero, suc, ◌+◌, ◌-◌, ◌≤◌, ◌<◌, max, Bool, true, false, not, cond, List, [], ◌∷◌, ◌++◌, drop, length, find, slice_get, take, Some, None, refl, sym, ap, ◌∙◌, inl, inr, arith}
use Rattle.std.specs.List.{range_with_len}
use Rattle.std.proofs.lemmas.Bool.{cases_lt, false_from_ne_true, true≢false}
use Rattle.std.proofs.lemmas.List.{append-nil, take-append-drop, take_all}
use Rattle.std.proofs.lemmas.Option.{same_Some}
use Rattle.card_set.proofs.NumbersOfRange.{found_in_range}
use Rattle.card_set.proofs.Options.{some_is_none}
use Rattle.card_set.proofs.Tests.{not_not}
use Rattle.hand_differences.proofs.ExactTests.{IsExact, exact_options}
use Rattle.hand_differences.specs.FirstNumbers.{DifferFirstAt, first_other_number, is_same_at}
use Rattle.hand_differences.specs.SameParts.{is_same_option}

-- lists are the same up to where their entries are
same_before : {A : Type 0} (count : ℕ) (xs ys : List A) → ((index : ℕ) → index < count → slice_get xs index ≡ slice_get ys index) → take count xs ≡ take count ys
same_before zero xs ys same = refl
same_before (suc count) [] [] same = refl
same_before (suc count) [] (y ∷ ys) same = absurd (some_is_none (sym (same 0 (omega arith))))
same_before (suc count) (x ∷ xs) [] same = absurd (some_is_none (same 0 (omega arith)))
same_before (suc count) (x ∷ xs) (y ∷ ys) same =
    let head : x ≡ y = same_Some x y (same 0 (omega arith)) in
    ap (λ z. z ∷ take count xs) head ∙ ap (λ zs. y ∷ zs) (same_before count xs ys (λ index within. same (suc index) (omega (arith, within))))

-- and their entries up to where they are
entry_before : {A : Type 0} (count : ℕ) (xs ys : List A) → take count xs ≡ take count ys → (index : ℕ) → index < count → slice_get xs index ≡ slice_get ys index
entry_before count xs ys same index within = sym (taken count xs index within) ∙ ap (λ l. slice_get l index) same ∙ taken count ys index within
  where
    taken : {A : Type 0} (count : ℕ) (xs : List A) (index : ℕ) → index < count → slice_get (take count xs) index ≡ slice_get xs index
    taken zero xs index within = absurd (omega (arith, within))
    taken (suc count) [] index within = refl
    taken (suc count) (x ∷ xs) zero within = refl
    taken (suc count) (x ∷ xs) (suc index) within = taken count xs index (omega (arith, within))

-- what is found in a range is the first that passes
first_found : (p : ℕ → Bool) (first count number : ℕ) → find p (range_with_len first count) ≡ Some number → (k : ℕ) → first ≤ k → k < number → p k ≡ false
first_found p first zero number is k low high = absurd (some_is_none (sym is))
first_found p first (suc count) number is k low high = by_first (p first) refl is (λ rest later. first_found p (first + 1) count number rest k (omega (arith, later)) high)
  where
    by_first : (b : Bool) → p first ≡ b → cond b (Some first) (find p (range_with_len (first + 1) count)) ≡ Some number → (find p (range_with_len (first + 1) count) ≡ Some number → first < k → p k ≡ false) → p k ≡ false
    by_first true here is after = absurd (omega (arith, low, high, same_Some first number is))
    by_first false here is after = elim (cases_lt first k) [
      | inl later ↦ after is later
      | inr now ↦ let same : k ≡ first = omega (arith, now, low) in ap p same ∙ here
    ]

-- the first that passes is found
found_first : (p : ℕ → Bool) (first count number : ℕ) → first ≤ number → number < first + count → p number ≡ true → ((k : ℕ) → first ≤ k → k < number → p k ≡ false) → find p (range_with_len first count) ≡ Some number
found_first p first zero number low high is none = absurd (omega (arith, low, high))
found_first p first (suc count) number low high is none = elim (cases_lt first number) [
  | inl later ↦
      ap (λ b. cond b (Some first) (find p (range_with_len (first + 1) count))) (none first (omega arith) later)
      ∙ found_first p (first + 1) count number (omega (arith, later)) (omega (arith, high)) is (λ k from to. none k (omega (arith, from)) to)
  | inr now ↦
      let same : first ≡ number = omega (arith, now, low) in
      ap (λ b. cond b (Some first) (find p (range_with_len (first + 1) count))) (ap p same ∙ is) ∙ ap Some same
]

module _ {A : Type 0} (same : A → A → Bool) (exact : IsExact same) (xs ys : List A) where
  pub differ_first : (number : ℕ) → first_other_number same xs ys ≡ Some number → DifferFirstAt xs ys number
  differ_first number is =
      let range = found_in_range (λ number. not (is_same_at same xs ys number)) 1 (max (length xs) (length ys)) number is in
      record {
        since = range.1.0;
        before = same_before (number - 1) xs ys (λ index within.
            let here : index + 1 - 1 ≡ index = omega arith in
            ap (slice_get xs) (sym here)
            ∙ (exact_options same exact).one (slice_get xs (index + 1 - 1)) (slice_get ys (index + 1 - 1)) (not_not (is_same_at same xs ys (index + 1)) (first_found (λ number. not (is_same_at same xs ys number)) 1 (max (length xs) (length ys)) number is (index + 1) (omega arith) (omega (arith, within))))
            ∙ ap (slice_get ys) here);
        differ = λ one. true≢false (sym range.0 ∙ ap not (ap (λ o. is_same_option same o (slice_get ys (number - 1))) one ∙ (exact_options same exact).own (slice_get ys (number - 1))));
      }

  pub first_differ : (number : ℕ) → DifferFirstAt xs ys number → first_other_number same xs ys ≡ Some number
  first_differ number it =
      found_first (λ number. not (is_same_at same xs ys number)) 1 (max (length xs) (length ys)) number it.since (within it)
      (ap not (false_from_ne_true (is_same_at same xs ys number) (λ one. it.differ ((exact_options same exact).one (slice_get xs (number - 1)) (slice_get ys (number - 1)) one))))
      (λ k low high. ap not (ap (λ o. is_same_option same o (slice_get ys (k - 1))) (entry_before (number - 1) xs ys it.before (k - 1) (omega (arith, low, high))) ∙ (exact_options same exact).own (slice_get ys (k - 1))))
    where
      past : {B : Type 0} (zs : List B) (index : ℕ) → length zs ≤ index → slice_get zs index ≡ None
      past [] index most = refl
      past (z ∷ zs) zero most = absurd (omega (arith, most))
      past (z ∷ zs) (suc index) most = past zs index (omega (arith, most))

      within : DifferFirstAt xs ys number → number < 1 + max (length xs) (length ys)
      within it = elim (cases_lt (number - 1) (max (length xs) (length ys))) [
        | inl inside ↦ omega (arith, inside, it.since)
        | inr beyond ↦ absurd (it.differ (past xs (number - 1) (omega (arith, beyond)) ∙ sym (past ys (number - 1) (omega (arith, beyond)))))
      ]

  -- if one list ends before the number, it is the beginning of the other
  pub begins : (number : ℕ) → DifferFirstAt xs ys number → length xs < number → ys ≡ xs ++ drop (length xs) ys
  begins number it ended =
      sym (take-append-drop (length xs) ys)
      ∙ ap (λ l. l ++ drop (length xs) ys) (same_before (length xs) ys xs (λ index within. sym (entry_before (number - 1) xs ys it.before index (omega (arith, within, ended)))) ∙ take_all (length xs) xs (omega arith))

  -- and the other one goes on
  pub more_behind : (number : ℕ) → DifferFirstAt xs ys number → length xs < number → drop (length xs) ys ≢ []
  more_behind number it ended none = it.differ (ap (λ l. slice_get l (number - 1)) (sym (begins number it ended ∙ ap (λ l. xs ++ l) none ∙ append-nil xs)))

-- first differences of two lists, the other way round
pub turned : {A : Type 0} (xs ys : List A) (number : ℕ) → DifferFirstAt xs ys number → DifferFirstAt ys xs number
turned xs ys number it = record { since = it.since; before = sym it.before; differ = λ one. it.differ (sym one) }
