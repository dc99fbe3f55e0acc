-- Lemmas on how many elements of a list pass a test.
use Rattle.std.proofs.Common.{Bool, List, [], ap, arith, cond, count_by, eqb-true, false, inl, inr, length, map, not, refl, suc, sum_by, sym, true, zero, ℕ, ◌*◌, ◌++◌, ◌+◌, ◌<◌, ◌==◌, ◌||◌, ◌∙◌, ◌∷◌, ◌≡◌, ◌≤◌, ◌⊎◌, filter, if◌then◌else◌}
use Rattle.std.proofs.lemmas.Bool.{true≢false, eq-eqb, ne_eqb, cases_lt}
use Rattle.std.specs.List.{range_with_len, list_any}
use Rattle.std.proofs.lemmas.List.Sums.{sum_by-cons}
use Rattle.std.proofs.lemmas.Bool.Decides.{nat_tests}

-- one more element in front
pub count_by-cons : {X : Type 0} (p : X → Bool) (x : X) (xs : List X) → count_by p (x ∷ xs) ≡ cond (p x) 1 0 + count_by p xs
count_by-cons p x xs = sum_by-cons (λ x. cond (p x) 1 0) x xs

-- one more element at the end
pub count_by-push : {X : Type 0} (p : X → Bool) (xs : List X) (x : X) → count_by p (xs ++ x ∷ []) ≡ count_by p xs + cond (p x) 1 0
count_by-push p [] x = count_by-cons p x [] ∙ omega arith
count_by-push p (y ∷ xs) x = omega (arith, count_by-cons p y (xs ++ x ∷ []), count_by-push p xs x, count_by-cons p y xs)

-- tests that agree at each number
pub count_agree : (p q : ℕ → Bool) (first n : ℕ) → ((k : ℕ) → first ≤ k → k < first + n → p k ≡ q k) → count_by p (range_with_len first n) ≡ count_by q (range_with_len first n)
count_agree p q first zero h = refl
count_agree p q first (suc n) h =
    let here : ◌≡◌ {A = ℕ} (cond (p first) 1 0) (cond (q first) 1 0) = ap (λ b. cond b 1 0) (h first (omega arith) (omega arith)) in
    let later : count_by p (range_with_len (first + 1) n) ≡ count_by q (range_with_len (first + 1) n) = count_agree p q (first + 1) n (λ k low high. h k (omega (arith, low)) (omega (arith, high))) in
    count_by-cons p first (range_with_len (first + 1) n)
    ∙ ap (λ c. c + count_by p (range_with_len (first + 1) n)) here
    ∙ ap (λ c. cond (q first) 1 0 + c) later
    ∙ sym (count_by-cons q first (range_with_len (first + 1) n))

counted_here : {X : Type 0} (p : X → Bool) (x : X) (rest : List X) (b : Bool) → (1 ≤ count_by p rest → list_any p rest ≡ true) → 1 ≤ cond b 1 0 + count_by p rest → (b || list_any p rest) ≡ true
counted_here p x rest true later some = refl
counted_here p x rest false later some = later (omega (arith, some))

-- if a count is above 0, some element passes
pub counted_some : {X : Type 0} (p : X → Bool) (xs : List X) → 1 ≤ count_by p xs → list_any p xs ≡ true
counted_some p [] some = absurd (omega (arith, some))
counted_some p (x ∷ xs) some = counted_here p x xs (p x) (counted_some p xs) (omega (arith, some, count_by-cons p x xs))

-- a stronger test counts no more
fewer_by : {X : Type 0} (p q : X → Bool) (x : X) (rest : List X) (a b : Bool) → (a ≡ true → b ≡ true) → count_by p rest ≤ count_by q rest → cond a 1 0 + count_by p rest ≤ cond b 1 0 + count_by q rest
fewer_by p q x rest true true h later = omega (arith, later)
fewer_by p q x rest true false h later = absurd (true≢false (sym (h refl)))
fewer_by p q x rest false true h later = omega (arith, later)
fewer_by p q x rest false false h later = omega (arith, later)

pub counts_fewer : {X : Type 0} (p q : X → Bool) → ((x : X) → p x ≡ true → q x ≡ true) → (xs : List X) → count_by p xs ≤ count_by q xs
counts_fewer p q h [] = omega arith
counts_fewer p q h (x ∷ xs) = omega (arith, fewer_by p q x xs (p x) (q x) (h x) (counts_fewer p q h xs), count_by-cons p x xs, count_by-cons q x xs)

-- a test that passes at each number
pub count_all : (p : ℕ → Bool) (first n : ℕ) → ((k : ℕ) → p k ≡ true) → count_by p (range_with_len first n) ≡ n
count_all p first zero all = refl
count_all p first (suc n) all =
    let one : ◌≡◌ {A = ℕ} (cond (p first) 1 0) 1 = ap (λ b. cond b 1 0) (all first) in
    omega (arith, count_by-cons p first (range_with_len (first + 1) n), one, count_all p (first + 1) n all)

-- what passes one of two tests is counted at most as often as both together
either_by : (a b c : Bool) (p q r : ℕ) → (a ≡ true → (b ≡ true) ⊎ (c ≡ true)) → p ≤ q + r → cond a 1 0 + p ≤ (cond b 1 0 + q) + (cond c 1 0 + r)
either_by true true true p q r h later = omega (arith, later)
either_by true true false p q r h later = omega (arith, later)
either_by true false true p q r h later = omega (arith, later)
either_by true false false p q r h later = elim (h refl) [ inl is ↦ absurd (true≢false (sym is)) | inr is ↦ absurd (true≢false (sym is)) ]
either_by false true true p q r h later = omega (arith, later)
either_by false true false p q r h later = omega (arith, later)
either_by false false true p q r h later = omega (arith, later)
either_by false false false p q r h later = omega (arith, later)

pub counts_either : {X : Type 0} (p q r : X → Bool) → ((x : X) → p x ≡ true → (q x ≡ true) ⊎ (r x ≡ true)) → (xs : List X) → count_by p xs ≤ count_by q xs + count_by r xs
counts_either p q r h [] = omega arith
counts_either p q r h (x ∷ xs) =
    omega (arith, either_by (p x) (q x) (r x) (count_by p xs) (count_by q xs) (count_by r xs) (h x) (counts_either p q r h xs), count_by-cons p x xs, count_by-cons q x xs, count_by-cons r x xs)

-- a number occurs at most once among numbers in a row
pub count_later : (k first n : ℕ) → k < first → count_by (λ x. k == x) (range_with_len first n) ≡ 0
count_later k first zero less = refl
count_later k first (suc n) less =
    let other : ◌≡◌ {A = ℕ} (cond (k == first) 1 0) 0 = ap (λ b. cond b 1 0) (ne_eqb k first (λ same. omega (arith, less, same))) in
    omega (arith, count_by-cons (λ x. k == x) first (range_with_len (first + 1) n), other, count_later k (first + 1) n (omega (arith, less)))

pub count_one : (k first n : ℕ) → count_by (λ x. k == x) (range_with_len first n) ≤ 1
count_one k first zero = omega arith
count_one k first (suc n) = one_by (k == first) refl (count_one k (first + 1) n)
  where
    one_by : (b : Bool) → (k == first) ≡ b → count_by (λ x. k == x) (range_with_len (first + 1) n) ≤ 1 → count_by (λ x. k == x) (range_with_len first (suc n)) ≤ 1
    one_by true is later =
        let same : k ≡ first = eqb-true k first is in
        let one : ◌≡◌ {A = ℕ} (cond (k == first) 1 0) 1 = ap (λ b. cond b 1 0) is in
        omega (arith, count_by-cons (λ x. k == x) first (range_with_len (first + 1) n), one, count_later k (first + 1) n (omega (arith, same)))
    one_by false is later =
        let none : ◌≡◌ {A = ℕ} (cond (k == first) 1 0) 0 = ap (λ b. cond b 1 0) is in
        omega (arith, count_by-cons (λ x. k == x) first (range_with_len (first + 1) n), none, later)

-- the elements with each value, where no value is above four
pub weighed : (value four three two one sum : ℕ) → value ≤ 4 → sum ≡ 4 * four + 3 * three + 2 * two + one → value + sum ≡ 4 * (cond (value == 4) 1 0 + four) + 3 * (cond (value == 3) 1 0 + three) + 2 * (cond (value == 2) 1 0 + two) + (cond (value == 1) 1 0 + one)
weighed value four three two one sum few is = grind (arith, nat_tests)

-- a sum is read from how many elements have each value
pub sum_by-values : {X : Type 0} (f : X → ℕ) (xs : List X) → ((x : X) → f x ≤ 4) → sum_by f xs ≡ 4 * count_by (λ x. f x == 4) xs + 3 * count_by (λ x. f x == 3) xs + 2 * count_by (λ x. f x == 2) xs + count_by (λ x. f x == 1) xs
sum_by-values f [] few = refl
sum_by-values f (x ∷ xs) few =
    sum_by-cons f x xs
    ∙ weighed (f x) (count_by (λ x. f x == 4) xs) (count_by (λ x. f x == 3) xs) (count_by (λ x. f x == 2) xs) (count_by (λ x. f x == 1) xs) (sum_by f xs) (few x) (sum_by-values f xs few)
    ∙ omega (arith, count_by-cons (λ x. f x == 4) x xs, count_by-cons (λ x. f x == 3) x xs, count_by-cons (λ x. f x == 2) x xs, count_by-cons (λ x. f x == 1) x xs)

-- an element has at most one of the values
pub few_values : (value four three two one sum : ℕ) → four + three + two + one ≤ sum → cond (value == 4) 1 0 + four + (cond (value == 3) 1 0 + three) + (cond (value == 2) 1 0 + two) + (cond (value == 1) 1 0 + one) ≤ value + sum
few_values value four three two one sum few = grind (arith, nat_tests)

-- the elements with these values are at most the sum
pub counts-le-sum : {X : Type 0} (f : X → ℕ) (xs : List X) → count_by (λ x. f x == 4) xs + count_by (λ x. f x == 3) xs + count_by (λ x. f x == 2) xs + count_by (λ x. f x == 1) xs ≤ sum_by f xs
counts-le-sum f [] = omega arith
counts-le-sum f (x ∷ xs) =
    omega (arith, few_values (f x) (count_by (λ x. f x == 4) xs) (count_by (λ x. f x == 3) xs) (count_by (λ x. f x == 2) xs) (count_by (λ x. f x == 1) xs) (sum_by f xs) (counts-le-sum f xs), sum_by-cons f x xs, count_by-cons (λ x. f x == 4) x xs, count_by-cons (λ x. f x == 3) x xs, count_by-cons (λ x. f x == 2) x xs, count_by-cons (λ x. f x == 1) x xs)

-- a value of at most one is no greater number
pub not_equal : (value n : ℕ) → value ≤ 1 → 1 < n → ◌≡◌ {A = ℕ} (cond (value == n) 1 0) 0
not_equal value n once above = grind (arith, nat_tests)

-- no element has a value that is above every element's
pub count_by-none : {X : Type 0} (f : X → ℕ) (n : ℕ) (xs : List X) → ((x : X) → f x ≤ 1) → 1 < n → count_by (λ x. f x == n) xs ≡ 0
count_by-none f n [] once above = refl
count_by-none f n (x ∷ xs) once above =
    let here = not_equal (f x) n (once x) above in
    omega (arith, count_by-cons (λ x. f x == n) x xs, here, count_by-none f n xs once above)

-- over a list that was mapped
pub count_by-map : {X Y : Type 0} (p : Y → Bool) (f : X → Y) (xs : List X) → count_by p (map f xs) ≡ count_by (λ x. p (f x)) xs
count_by-map p f [] = refl
count_by-map p f (x ∷ xs) = omega (arith, count_by-cons p (f x) (map f xs), count_by-cons (λ x. p (f x)) x xs, count_by-map p f xs)

-- a number occurs once among numbers in a row that include it
pub range_once : (k a n : ℕ) → a ≤ k → k < a + n → count_by (λ j. k == j) (range_with_len a n) ≡ 1
range_once k a zero from before = absurd (omega arith)
range_once k a (suc n) from before =
    elim (cases_lt a k) [
      | inl later ↦
          let here = ap (λ (b : Bool). cond {A = ℕ} b 1 0) (ne_eqb k a (λ same. omega arith)) in
          omega (arith, count_by-cons (λ j. k == j) a (range_with_len (a + 1) n), here, range_once k (a + 1) n (omega arith) (omega arith))
      | inr first ↦
          let here = ap (λ (b : Bool). cond {A = ℕ} b 1 0) (eq-eqb k a (omega arith)) in
          omega (arith, count_by-cons (λ j. k == j) a (range_with_len (a + 1) n), here, count_later k (a + 1) n (omega arith))
    ]

-- a test that never passes counts nothing
pub counted_never : {X : Type 0} (xs : List X) → count_by (λ x. false) xs ≡ 0
counted_never [] = refl
counted_never (x ∷ xs) = omega (arith, count_by-cons (λ x. false) x xs, counted_never xs)

-- a count is at most the sum
pub count-le-sum : (T : ℕ → ℕ) (n : ℕ) (ks : List ℕ) → 0 < n → count_by (λ k. T k == n) ks ≤ sum_by T ks
count-le-sum T n [] some = omega arith
count-le-sum T n (k ∷ ks) some = omega (arith, sum_by-cons T k ks, count_by-cons (λ k. T k == n) k ks, count-le-sum T n ks some, here (T k == n) refl)
  where
    here : (b : Bool) → (T k == n) ≡ b → cond b 1 0 ≤ T k
    here true is = let same = eqb-true (T k) n is in omega arith
    here false is = omega arith

-- what passes and what does not pass are all
pub count_both : {X : Type 0} (p : X → Bool) (xs : List X) → count_by p xs + count_by (λ x. not (p x)) xs ≡ length xs
count_both p [] = refl
count_both p (x ∷ rest) = omega (arith, count_by-cons p x rest, count_by-cons (λ y. not (p y)) x rest, count_both p rest, here (p x))
  where
    here : (b : Bool) → cond b 1 0 + cond (not b) 1 0 ≡ 1
    here true = refl
    here false = refl

pub count_by-joined : {X : Type 0} (p : X → Bool) (xs ys : List X) → count_by p (xs ++ ys) ≡ count_by p xs + count_by p ys
count_by-joined p [] ys = omega arith
count_by-joined p (x ∷ xs) ys = omega (arith, count_by-cons p x (xs ++ ys), count_by-cons p x xs, count_by-joined p xs ys)

-- if fewer numbers of a range pass a second test, one passes only the first
pub some_gone : (p q : ℕ → Bool) (start count : ℕ) → length (filter q (range_with_len start count)) < length (filter p (range_with_len start count)) → (number : ℕ) × ((p number ≡ true) × (q number ≡ false))
some_gone p q start zero less = absurd (omega (arith, less))
some_gone p q start (suc count) less = by_both (p start) (q start) refl refl less (some_gone p q (start + 1) count)
  where
    by_both : (a b : Bool) → p start ≡ a → q start ≡ b → length (if b then (start ∷ filter q (range_with_len (start + 1) count)) else filter q (range_with_len (start + 1) count)) < length (if a then (start ∷ filter p (range_with_len (start + 1) count)) else filter p (range_with_len (start + 1) count)) → (length (filter q (range_with_len (start + 1) count)) < length (filter p (range_with_len (start + 1) count)) → (number : ℕ) × ((p number ≡ true) × (q number ≡ false))) → (number : ℕ) × ((p number ≡ true) × (q number ≡ false))
    by_both true false is_p is_q it later = (start, (is_p, is_q))
    by_both true true is_p is_q it later = later (omega (arith, it))
    by_both false true is_p is_q it later = later (omega (arith, it))
    by_both false false is_p is_q it later = later it
