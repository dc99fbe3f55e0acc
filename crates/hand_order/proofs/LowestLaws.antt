-- The lowest heights that pass make the smallest number of all that pass.
use Rattle.std.proofs.Common.{◌≡◌, ℕ, zero, suc, ◌+◌, ◌-◌, ◌*◌, ◌<◌, ◌≤◌, ◌==◌, Bool, true, false, cond, List, [], ◌∷◌, ◌++◌, length, inl, inr, refl, sym, ◌∙◌, ap, subst, arith, length-append}
use Rattle.std.proofs.lemmas.Bool.{cases_lt, ne_eqb}
use Rattle.hand_order.specs.Digits.{with_digits, AreDigits}
use Rattle.hand_order.specs.Lowest.{lowest}
use Rattle.hand_order.proofs.Digits.{with_digits-append, with_digits-cons, with_digits-nil}
use Rattle.hand_order.proofs.FallingRanks.{FallingFrom}
use Rattle.card_set.proofs.Numbers.{one_less}

-- each height passes the test, and is not below another
abbrev pub Pass : (ℕ → Bool) → ℕ → List ℕ → Type 0
Pass has from [] = Unit {0}
Pass has from (h ∷ hs) = (has h ≡ true) × (from ≤ h) × Pass has from hs

-- a list that is not empty has a last element
pub record HasLast (xs : List ℕ) : Type 0 where
  pub front : List ℕ
  pub last : ℕ
  pub is : xs ≡ front ++ last ∷ []

last_of : (x : ℕ) (xs : List ℕ) → HasLast (x ∷ xs)
last_of x [] = record { front = []; last = x; is = refl }
last_of x (y ∷ ys) = let rest = last_of y ys in record { front = x ∷ rest.front; last = rest.last; is = ap (λ (l : List ℕ). x ∷ l) rest.is }

-- a number with one more digit
digit_last : (xs : List ℕ) (x : ℕ) → with_digits 0 (xs ++ x ∷ []) ≡ with_digits 0 xs * 16 + x
digit_last xs x = with_digits-append 0 xs (x ∷ []) ∙ with_digits-cons (with_digits 0 xs) x [] ∙ with_digits-nil (with_digits 0 xs * 16 + x)

front_falls : (bound x : ℕ) (xs : List ℕ) → FallingFrom bound (xs ++ x ∷ []) → FallingFrom bound xs × ((x < bound))
front_falls bound x [] falling = (tt, falling.0)
front_falls bound x (y ∷ ys) falling = let rest = front_falls y x ys falling.1 in ((falling.0, rest.0), omega (arith, falling.0, rest.1))

front_passes : (has : ℕ → Bool) (from bound x : ℕ) (xs : List ℕ) → FallingFrom bound (xs ++ x ∷ []) → Pass has from (xs ++ x ∷ []) → Pass has (x + 1) xs × (has x ≡ true) × (from ≤ x)
front_passes has from bound x [] falling pass = (tt, pass.0, pass.1)
front_passes has from bound x (y ∷ ys) falling pass =
    let rest = front_passes has from y x ys falling.1 pass.2 in
    let below = front_falls y x ys falling.1 in
    ((pass.0, omega (arith, below.1), rest.0), rest.1, rest.2)

pass_higher : (has : ℕ → Bool) (from : ℕ) (hs : List ℕ) → has from ≡ false → Pass has from hs → Pass has (from + 1) hs
pass_higher has from [] fails pass = tt
pass_higher has from (h ∷ hs) fails pass = (pass.0, elim (cases_lt from h) [ inl above ↦ omega arith | inr least ↦ absurd (clash h (omega (arith, pass.1)) pass.0) ], pass_higher has from hs fails pass.2)
  where
    clash : (h : ℕ) → h ≡ from → has h ≡ true → ⊥
    clash h same passes = let off = sym (ap has same) ∙ passes in true_false (sym off ∙ fails)
      where
        true_false : true ≡ false → ⊥
        true_false is = cc

-- no list of the same number of heights that pass makes a smaller number
pub record IsLeast (found ks : List ℕ) (n : ℕ) : Type 0 where
  pub long : length found ≡ n
  pub least : with_digits 0 found ≤ with_digits 0 ks

least_none : (found ks : List ℕ) (n : ℕ) → found ≡ [] → n ≡ 0 → IsLeast found ks n
least_none found ks n none zero_n =
    let same = ap (with_digits 0) none in
    record { long = ap (length {A = ℕ}) none ∙ sym zero_n; least = omega (arith, same, with_digits-nil 0) }

least_more : (found front ks : List ℕ) (m from last : ℕ) → IsLeast found front m → ks ≡ front ++ last ∷ [] → from ≤ last → IsLeast (found ++ from ∷ []) ks (suc m)
least_more found front ks m from last rest is below =
    let same = ap (with_digits 0) is ∙ digit_last front last in
    record { long = omega (arith, length-append found (from ∷ []), rest.long); least = omega (arith, digit_last found from, same, rest.least) }

-- the lowest height is the last, if it passes
pub lowest_some : (has : ℕ → Bool) (heights from m : ℕ) → lowest has (suc heights) from (suc m) ≡ cond (has from) (lowest has heights (from + 1) m ++ from ∷ []) (lowest has heights (from + 1) (suc m))
lowest_some has heights from m =
    ap (λ (b : Bool). cond b [] (cond (has from) (lowest has heights (from + 1) (suc m - 1) ++ from ∷ []) (lowest has heights (from + 1) (suc m)))) (ne_eqb (suc m) 0 (λ same. omega arith))
    ∙ ap (λ (k : ℕ). cond (has from) (lowest has heights (from + 1) k ++ from ∷ []) (lowest has heights (from + 1) (suc m))) (one_less m)

pub lowest_least : (has : ℕ → Bool) (heights from n : ℕ) (ks : List ℕ) → length ks ≡ n → FallingFrom (from + heights) ks → Pass has from ks → IsLeast (lowest has heights from n) ks n
lowest_least has zero from n [] long falling pass = least_none [] [] n refl (sym long)
lowest_least has zero from n (k ∷ ks) long falling pass = absurd (omega (arith, falling.0, pass.1))
lowest_least has (suc heights) from zero ks long falling pass = least_none [] ks 0 refl refl
lowest_least has (suc heights) from (suc m) [] long falling pass = absurd (omega arith)
lowest_least has (suc heights) from (suc m) (k ∷ ks) long falling pass =
    let last = last_of k ks in
    let falls = subst (FallingFrom (from + suc heights)) last.is falling in
    let passes = front_passes has from (from + suc heights) last.last last.front falls (subst (Pass has from) last.is pass) in
    let front = front_falls (from + suc heights) last.last last.front falls in
    let size = ap (length {A = ℕ}) last.is in
    subst (λ (l : List ℕ). IsLeast l (k ∷ ks) (suc m)) (sym (lowest_some has heights from m))
    (by_test (has from) refl
    (λ here. least_more (lowest has heights (from + 1) m) last.front (k ∷ ks) m from last.last
    (lowest_least has heights (from + 1) m last.front (omega (arith, size, length-append last.front (last.last ∷ []), long)) (subst (λ (b : ℕ). FallingFrom b last.front) (omega arith) front.0) (pass_from has (last.last + 1) (from + 1) last.front (omega (arith, passes.2)) passes.0))
    last.is passes.2)
    (λ off. lowest_least has heights (from + 1) (suc m) (k ∷ ks) long (subst (λ (b : ℕ). FallingFrom b (k ∷ ks)) (omega arith) falling) (pass_higher has from (k ∷ ks) off pass)))
  where
    pass_from : (has : ℕ → Bool) (high low : ℕ) (hs : List ℕ) → low ≤ high → Pass has high hs → Pass has low hs
    pass_from has high low [] le pass = tt
    pass_from has high low (h ∷ hs) le pass = (pass.0, omega (arith, pass.1), pass_from has high low hs le pass.2)

    by_test : (b : Bool) → has from ≡ b → (has from ≡ true → IsLeast (lowest has heights (from + 1) m ++ from ∷ []) (k ∷ ks) (suc m)) → (has from ≡ false → IsLeast (lowest has heights (from + 1) (suc m)) (k ∷ ks) (suc m)) → IsLeast (cond b (lowest has heights (from + 1) m ++ from ∷ []) (lowest has heights (from + 1) (suc m))) (k ∷ ks) (suc m)
    by_test true is taken passed = taken is
    by_test false is taken passed = passed is

-- the lowest heights fall, and pass
falling_last : (bound x : ℕ) (has : ℕ → Bool) (xs : List ℕ) → FallingFrom bound xs → Pass has (x + 1) xs → x < bound → FallingFrom bound (xs ++ x ∷ [])
falling_last bound x has [] falling pass below = (below, tt)
falling_last bound x has (y ∷ ys) falling pass below = (falling.0, falling_last y x has ys falling.1 pass.2 (omega (arith, pass.1)))

pass_last : (has : ℕ → Bool) (x : ℕ) (xs : List ℕ) → Pass has (x + 1) xs → has x ≡ true → Pass has x (xs ++ x ∷ [])
pass_last has x [] pass is = (is, omega arith, tt)
pass_last has x (y ∷ ys) pass is = (pass.0, omega (arith, pass.1), pass_last has x ys pass.2 is)

pass_lower : (has : ℕ → Bool) (from : ℕ) (hs : List ℕ) → Pass has (from + 1) hs → Pass has from hs
pass_lower has from [] pass = tt
pass_lower has from (h ∷ hs) pass = (pass.0, omega (arith, pass.1), pass_lower has from hs pass.2)

pub lowest_passes : (has : ℕ → Bool) (heights from n : ℕ) → FallingFrom (from + heights) (lowest has heights from n) × Pass has from (lowest has heights from n)
lowest_passes has zero from n = (tt, tt)
lowest_passes has (suc heights) from n =
    by_tests (n == 0) (has from) refl
    (lowest_passes has heights (from + 1) (n - 1)) (lowest_passes has heights (from + 1) n)
  where
    by_tests : (z b : Bool) → has from ≡ b → FallingFrom (from + 1 + heights) (lowest has heights (from + 1) (n - 1)) × Pass has (from + 1) (lowest has heights (from + 1) (n - 1)) → FallingFrom (from + 1 + heights) (lowest has heights (from + 1) n) × Pass has (from + 1) (lowest has heights (from + 1) n)
        → FallingFrom (from + suc heights) (cond z [] (cond b (lowest has heights (from + 1) (n - 1) ++ from ∷ []) (lowest has heights (from + 1) n))) × Pass has from (cond z [] (cond b (lowest has heights (from + 1) (n - 1) ++ from ∷ []) (lowest has heights (from + 1) n)))
    by_tests true b is fewer same = (tt, tt)
    by_tests false true is fewer same =
        let higher : from + 1 + heights ≡ from + suc heights = omega arith in
        (falling_last (from + suc heights) from has (lowest has heights (from + 1) (n - 1)) (subst (λ (k : ℕ). FallingFrom k (lowest has heights (from + 1) (n - 1))) higher fewer.0) fewer.1 (omega arith), pass_last has from (lowest has heights (from + 1) (n - 1)) fewer.1 is)
    by_tests false false is fewer same =
        let higher : from + 1 + heights ≡ from + suc heights = omega arith in
        (subst (λ (k : ℕ). FallingFrom k (lowest has heights (from + 1) n)) higher same.0, pass_lower has from (lowest has heights (from + 1) n) same.1)

pub digits_within : (bound : ℕ) (hs : List ℕ) → bound ≤ 16 → FallingFrom bound hs → AreDigits hs
digits_within bound [] below falling = tt
digits_within bound (h ∷ hs) below falling = (omega (arith, falling.0), digits_within h hs (omega (arith, falling.0)) falling.1)

pub few_lowest : (has : ℕ → Bool) (heights from n : ℕ) → length (lowest has heights from n) ≤ n
few_lowest has zero from n = omega arith
few_lowest has (suc heights) from zero = omega arith
few_lowest has (suc heights) from (suc m) =
    let long = ap (length {A = ℕ}) (lowest_some has heights from m) in
    let few = by_test (has from) (few_lowest has heights (from + 1) m) (few_lowest has heights (from + 1) (suc m)) in
    omega arith
  where
    by_test : (b : Bool) → length (lowest has heights (from + 1) m) ≤ m → length (lowest has heights (from + 1) (suc m)) ≤ suc m → length (cond b (lowest has heights (from + 1) m ++ from ∷ []) (lowest has heights (from + 1) (suc m))) ≤ suc m
    by_test true fewer same = omega (arith, fewer, length-append (lowest has heights (from + 1) m) (from ∷ []))
    by_test false fewer same = same

-- heights that do not pass are left out
lowest_past : (has : ℕ → Bool) (k heights from need : ℕ) → k ≤ heights → ((j : ℕ) → j < k → has (from + j) ≡ false) → lowest has heights from need ≡ lowest has (heights - k) (from + k) need
lowest_past has zero heights from need within absent =
    ap (λ (n : ℕ). lowest has n from need) {x = heights} {y = heights - 0} (omega arith) ∙ ap (λ (h : ℕ). lowest has (heights - 0) h need) {x = from} {y = from + 0} (omega arith)
lowest_past has (suc k) zero from need within absent = absurd (omega arith)
lowest_past has (suc k) (suc heights) from need within absent =
    next need
    ∙ lowest_past has k heights (from + 1) need (omega arith) (λ j below. ap has {x = from + 1 + j} {y = from + (j + 1)} (omega arith) ∙ absent (j + 1) (omega arith))
    ∙ ap (λ (n : ℕ). lowest has n (from + 1 + k) need) {x = heights - k} {y = suc heights - suc k} (omega arith)
    ∙ ap (λ (h : ℕ). lowest has (suc heights - suc k) h need) {x = from + 1 + k} {y = from + suc k} (omega arith)
  where
    here : has from ≡ false
    here = ap has {x = from} {y = from + 0} (omega arith) ∙ absent 0 (omega arith)

    none : (n : ℕ) → lowest has n (from + 1) 0 ≡ []
    none zero = refl
    none (suc n) = refl

    next : (need : ℕ) → lowest has (suc heights) from need ≡ lowest has heights (from + 1) need
    next zero = sym (none heights)
    next (suc m) = lowest_some has heights from m ∙ ap (λ (b : Bool). cond b (lowest has heights (from + 1) m ++ from ∷ []) (lowest has heights (from + 1) (suc m))) here

-- no height passes
pub lowest_absent : (has : ℕ → Bool) (k heights from need : ℕ) → heights ≤ k → ((j : ℕ) → j < k → has (from + j) ≡ false) → [] ≡ lowest has heights from need
lowest_absent has k heights from need past absent =
    ap (λ (n : ℕ). lowest has n (from + heights) need) {x = 0} {y = heights - heights} (omega arith)
    ∙ sym (lowest_past has heights heights from need (omega arith) (λ j below. absent j (omega (arith, past, below))))

-- the first that passes is the last of the list
pub lowest_first : (has : ℕ → Bool) (k heights from need : ℕ) → k < heights → (need ≡ 0 → ⊥) → ((j : ℕ) → j < k → has (from + j) ≡ false) → has (from + k) ≡ true → lowest has (heights - k - 1) (from + k + 1) (need - 1) ++ (from + k) ∷ [] ≡ lowest has heights from need
lowest_first has k heights from zero within some absent here = absurd (some refl)
lowest_first has k heights from (suc m) within some absent here =
    ap (λ (n : ℕ). lowest has (heights - k - 1) (from + k + 1) n ++ (from + k) ∷ []) (one_less m)
    ∙ sym (ap (λ (b : Bool). cond b (lowest has (heights - k - 1) (from + k + 1) m ++ (from + k) ∷ []) (lowest has (heights - k - 1) (from + k + 1) (suc m))) here)
    ∙ sym (lowest_some has (heights - k - 1) (from + k) m)
    ∙ ap (λ (n : ℕ). lowest has n (from + k) (suc m)) {x = suc (heights - k - 1)} {y = heights - k} (omega arith)
    ∙ sym (lowest_past has k heights from (suc m) (omega arith) absent)
