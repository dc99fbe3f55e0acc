-- Lemmas on numbers in a row, and on the first of them that passes a test.
use Rattle.std.proofs.Common.{Bool, Some, [], ap, arith, cond, false, find, suc, true, zero, ℕ, ⊎_elim, ◌&&◌, ◌++◌, ◌+◌, ◌-◌, ◌<◌, ◌==◌, ◌∙◌, ◌∷◌, ◌≡◌, ◌≤◌, List, refl, sym, take, ◌||◌}
use Rattle.std.proofs.lemmas.Bool.{and_parts, eqb-true, or_cases}
use Rattle.std.specs.List.{list_any, range_with_len, list_all}

-- one more number at the end
pub range_more : (a n : ℕ) → range_with_len a (suc n) ≡ range_with_len a n ++ (a + n) ∷ []
range_more a zero = let e : a ≡ a + 0 = omega arith in ap (λ x. x ∷ []) e
range_more a (suc n) =
    let e : a + 1 + n ≡ a + suc n = omega arith in
    ap (λ xs. a ∷ xs) (range_more (a + 1) n ∙ ap (λ x. range_with_len (a + 1) n ++ x ∷ []) e)

-- a number that is found among those from one on is one of them
pub any_within : (q : ℕ → Bool) (n a len : ℕ) → list_any (λ m. q m && (m == n)) (range_with_len a len) ≡ true → (a ≤ n) × (n < a + len)
any_within q n a zero h = cc (h)
any_within q n a (suc len) h =
    ⊎_elim
    (λ (here : (q a && (a == n)) ≡ true). let same = eqb-true a n (and_parts (q a) (a == n) here).1 in (omega (arith, same), omega (arith, same)))
    (λ (there : list_any (λ m. q m && (m == n)) (range_with_len (a + 1) len) ≡ true). let range = any_within q n (a + 1) len there in (omega (arith, range.0), omega (arith, range.1)))
    (or_cases (q a && (a == n)) (list_any (λ m. q m && (m == n)) (range_with_len (a + 1) len)) h)

-- a number that does not pass, before others
pub find_next : (test : ℕ → Bool) (first count : ℕ) → 0 < count → test first ≡ false → find test (range_with_len (first + 1) (count - 1)) ≡ find test (range_with_len first count)
find_next test first zero some other = absurd (omega (arith, some))
find_next test first (suc count) some other = rw other (ap (λ n. find test (range_with_len (first + 1) n)) (omega arith))

-- the first of the numbers, if it passes
pub find_here : (test : ℕ → Bool) (first count : ℕ) → 0 < count → test first ≡ true → find test (range_with_len first count) ≡ Some first
find_here test first zero some passes = absurd (omega (arith, some))
find_here test first (suc count) some passes = ap (λ b. cond b (Some first) (find test (range_with_len (first + 1) count))) passes

pub front_of_range : (start n : ℕ) (back : List ℕ) → take n (range_with_len start n ++ back) ≡ range_with_len start n
front_of_range start zero back = refl
front_of_range start (suc n) back = ap (λ rest. start ∷ rest) (front_of_range (start + 1) n back)

-- the first number of a range, and the others
pub range_step : (first count : ℕ) → 1 ≤ count → range_with_len first count ≡ first ∷ range_with_len (first + 1) (count - 1)
range_step first zero some = absurd (omega (arith, some))
range_step first (suc count) some = let less : suc count - 1 ≡ count = omega arith in rw less refl

pub range_left : (index count : ℕ) → index < count → range_with_len (index + 1) (count - index) ≡ (index + 1) ∷ range_with_len (index + 1 + 1) (count - (index + 1))
range_left index count within =
    let less : (count - index) - 1 ≡ count - (index + 1) = omega (arith, within) in
    range_step (index + 1) (count - index) (omega (arith, within)) ∙ ap (λ n. (index + 1) ∷ range_with_len (index + 1 + 1) n) less

-- if the first number passes, the others decide whether all do
pub all_goes_on : (test : ℕ → Bool) (index count : ℕ) (all : Bool) → index < count → test (index + 1) ≡ true
    → list_all test (range_with_len (index + 1) (count - index)) ≡ all → list_all test (range_with_len (index + 1 + 1) (count - (index + 1))) ≡ all
all_goes_on test index count all within passes is =
    let first : list_all test ((index + 1) ∷ range_with_len (index + 1 + 1) (count - (index + 1))) ≡ list_all test (range_with_len (index + 1 + 1) (count - (index + 1))) = rw passes refl in
    sym first ∙ ap (list_all test) (sym (range_left index count within)) ∙ is

-- if the first number fails, the others decide whether any passes
pub any_goes_on : (test : ℕ → Bool) (index count : ℕ) (all : Bool) → index < count → test (index + 1) ≡ false
    → list_any test (range_with_len (index + 1) (count - index)) ≡ all → list_any test (range_with_len (index + 1 + 1) (count - (index + 1))) ≡ all
any_goes_on test index count all within fails is =
    let first : list_any test ((index + 1) ∷ range_with_len (index + 1 + 1) (count - (index + 1))) ≡ list_any test (range_with_len (index + 1 + 1) (count - (index + 1))) = rw fails refl in
    sym first ∙ ap (list_any test) (sym (range_left index count within)) ∙ is

-- the first of the numbers that are left, and the others
pub all_next : (p : ℕ → Bool) (first count : ℕ) → 0 < count → list_all p (range_with_len first count) ≡ (p first && list_all p (range_with_len (first + 1) (count - 1)))
all_next p first zero some = absurd (omega (arith, some))
all_next p first (suc count) some = ap (λ n. p first && list_all p (range_with_len (first + 1) n)) (omega arith)

-- the first of the numbers that are left, and the others
pub any_next : (p : ℕ → Bool) (first count : ℕ) → 0 < count → list_any p (range_with_len first count) ≡ (p first || list_any p (range_with_len (first + 1) (count - 1)))
any_next p first zero some = absurd (omega (arith, some))
any_next p first (suc count) some = let fewer : count ≡ suc count - 1 = omega arith in ap (λ n. p first || list_any p (range_with_len (first + 1) n)) fewer
