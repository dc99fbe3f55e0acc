-- Lemmas on a test that passes at some element of a list, or at none.
use Rattle.std.proofs.Common.{Bool, List, [], ap, arith, cond, false, filter, get_or, if◌then◌else◌, length, map, refl, subst, true, ℕ, ⊎_elim, ◌&&◌, ◌==◌, ◌||◌, ◌∙◌, ◌∷◌, ◌≡◌, ◌≢◌, ◌≤◌, inl, inr, ltb-false, nat_lt, not, slice_index, suc, sym, take, zero, ◌<◌, true≢false}
use Rattle.std.proofs.lemmas.Bool.{and_parts, eq-eqb, eqb-true, or_cases, or_from, or_left, or_parts, or_right, cases_lt, false_from_ne_true, lt-ltb}
use Rattle.std.proofs.lemmas.List.{get_or_default}
use Rattle.std.proofs.lemmas.List.Folds.{Any-from_list_any, list_any_at}
use Rattle.std.specs.List.{Contains, list_any}
use Rattle.card_set.proofs.Tests.{neither}

-- over a list that was mapped or filtered
pub list_any-map : {X Y : Type 0} (p : Y → Bool) (f : X → Y) (xs : List X)
    → list_any p (map f xs) ≡ list_any (λ x. p (f x)) xs
list_any-map p f [] = refl
list_any-map p f (x ∷ xs) = ap (λ b. p (f x) || b) (list_any-map p f xs)

-- with one more element in front, if it is kept
pub any_kept : {X : Type 0} (p : X → Bool) (x : X) (ys : List X) (kept rest : Bool)
    → list_any p ys ≡ rest
    → list_any p (cond kept (x ∷ ys) ys) ≡ ((kept && p x) || rest)
any_kept p x ys true rest e = ap (λ b. p x || b) e
any_kept p x ys false rest e = e

pub list_any-filter : {X : Type 0} (p q : X → Bool) (xs : List X)
    → list_any p (filter q xs) ≡ list_any (λ x. q x && p x) xs
list_any-filter p q [] = refl
list_any-filter p q (x ∷ xs) =
    any_kept p x (filter q xs) (q x) (list_any (λ y. q y && p y) xs) (list_any-filter p q xs)

-- tests that agree everywhere
pub list_any-same : {X : Type 0} (p q : X → Bool)
    → ((x : X) → p x ≡ q x)
    → (xs : List X)
    → list_any p xs ≡ list_any q xs
list_any-same p q h [] = refl
list_any-same p q h (x ∷ xs) =
    ap (λ b. b || list_any p xs) (h x) ∙ ap (λ b. q x || b) (list_any-same p q h xs)

-- a weaker test passes where a stronger one does
pub list_any-weaker : {X : Type 0} (p q : X → Bool)
    → ((x : X) → p x ≡ true → q x ≡ true)
    → (xs : List X)
    → list_any p xs ≡ true
    → list_any q xs ≡ true
list_any-weaker p q h [] e = e
list_any-weaker p q h (x ∷ xs) e =
    ⊎_elim (λ t. or_left (q x) (list_any q xs) (h x t))
    (λ t. or_right (q x) (list_any q xs) (list_any-weaker p q h xs t)) (or_cases (p x) (list_any p xs) e)

pub none_kept : {X : Type 0} (x : X) (ys : List X) (kept rest : Bool)
    → (ys ≡ [] → rest ≡ false)
    → cond kept (x ∷ ys) ys ≡ []
    → (kept || rest) ≡ false
none_kept x ys true rest h e = cc
none_kept x ys false rest h e = h e

-- a test that leaves nothing passes nowhere
pub list_any-from_nothing : {X : Type 0} (p : X → Bool) (xs : List X)
    → filter p xs ≡ []
    → list_any p xs ≡ false
list_any-from_nothing p [] e = refl
list_any-from_nothing p (x ∷ xs) e =
    none_kept x (filter p xs) (p x) (list_any p xs) (list_any-from_nothing p xs) e

-- and one that passes nowhere leaves nothing
pub nothing_kept : {X : Type 0} (p : X → Bool) (ns : List X) → list_any p ns ≡ false → filter p ns ≡ []
nothing_kept p [] e = refl
nothing_kept p (n ∷ ns) e =
    let parts = or_parts (p n) (list_any p ns) e in
    ap (λ t. cond t (n ∷ filter p ns) (filter p ns)) parts.0 ∙ nothing_kept p ns parts.1

-- what passes nowhere passes for none of these
pub none_passes : {X : Type 0} (p : X → Bool) (xs : List X) → ((x : X) → p x ≡ false) → list_any p xs ≡ false
none_passes p [] never = refl
none_passes p (x ∷ xs) never = ap (λ (b : Bool). b || list_any p xs) (never x) ∙ none_passes p xs never

-- a list that has some has a number that is found in it
pub found_some : (xs : List ℕ) → xs ≢ [] → (k : ℕ) × (list_any (λ m. m == k) xs ≡ true)
found_some [] some = absurd (some refl)
found_some (x ∷ xs) some = (x, ap (λ (b : Bool). b || list_any (λ m. m == x) xs) (eq-eqb x x refl))

-- a number that is found among those that pass a test passes it
pub any_found : (f : ℕ → Bool) (n : ℕ) (ms : List ℕ) → list_any (λ m. f m && (m == n)) ms ≡ true → f n ≡ true
any_found f n [] e = cc
any_found f n (m ∷ ms) e =
    ⊎_elim
    (λ h.
    let parts = and_parts (f m) (m == n) h in
    subst (λ k. f k ≡ true) (eqb-true m n parts.1) parts.0)
    (any_found f n ms)
    (or_cases (f m && (m == n)) (list_any (λ k. f k && (k == n)) ms) e)

-- the number is in the list if and only if the test for it passes at one of its elements
pub any_from_contains : (xs : List ℕ) (x : ℕ) → Contains xs x → list_any (λ y. y == x) xs ≡ true
any_from_contains xs x (k, inside, at) =
    list_any_at (λ y. y == x) xs k x inside (eq-eqb (get_or xs k x) x at)

pub contains_from_any : (xs : List ℕ) (x : ℕ) → list_any (λ y. y == x) xs ≡ true → Contains xs x
contains_from_any xs x h =
    let one = Any-from_list_any (λ y. y == x) xs h in
    let same = eqb-true one.1 x one.4 in
    (one.0, one.2, get_or_default xs one.0 x one.1 one.2 ∙ one.3 ∙ same)

-- tests that pass less
pub none_still : (p q : ℕ → Bool) (numbers : List ℕ) → ((number : ℕ) → p number ≡ false → q number ≡ false) → list_any p numbers ≡ false → list_any q numbers ≡ false
none_still p q [] less is = refl
none_still p q (number ∷ rest) less is =
    let parts = or_parts (p number) (list_any p rest) is in or_from (q number) (list_any q rest) (less number parts.0) (none_still p q rest less parts.1)

-- if some elements are kept, some pass
pub any_from_length : (p : ℕ → Bool) (numbers : List ℕ) → 1 ≤ length (filter p numbers) → list_any p numbers ≡ true
any_from_length p [] some = absurd (omega (arith, some))
any_from_length p (first ∷ rest) some = by_first (p first) some (any_from_length p rest)
  where
    by_first : (b : Bool) → 1 ≤ length (if b then (first ∷ filter p rest) else filter p rest) → (1 ≤ length (filter p rest) → list_any p rest ≡ true) → (b || list_any p rest) ≡ true
    by_first true it later = refl
    by_first false it later = later it

-- numbers none of which is above 0
pub zero_from_none : (amounts : List ℕ) (k : ℕ) → list_any (nat_lt 0) amounts ≡ false → slice_index amounts k ≡ 0
zero_from_none [] k none = refl
zero_from_none (amount ∷ amounts) zero none = omega (arith, ltb-false 0 amount (neither (nat_lt 0 amount) (list_any (nat_lt 0) amounts) none).0)
zero_from_none (amount ∷ amounts) (suc k) none = zero_from_none amounts k (neither (nat_lt 0 amount) (list_any (nat_lt 0) amounts) none).1

-- numbers that are all 0
pub none_from_zeros : (numbers : List ℕ) → ((index : ℕ) → slice_index numbers index ≡ 0) → list_any (nat_lt 0) numbers ≡ false
none_from_zeros [] zeros = refl
none_from_zeros (number ∷ numbers) zeros = ap (λ n. nat_lt 0 n || list_any (nat_lt 0) numbers) (zeros zero) ∙ none_from_zeros numbers (λ index. zeros (suc index))

pub none_taken_from_zeros : (count : ℕ) (numbers : List ℕ) → ((index : ℕ) → slice_index numbers index ≡ 0) → list_any (nat_lt 0) (take count numbers) ≡ false
none_taken_from_zeros zero numbers zeros = refl
none_taken_from_zeros (suc count) [] zeros = refl
none_taken_from_zeros (suc count) (number ∷ numbers) zeros = ap (λ n. nat_lt 0 n || list_any (nat_lt 0) (take count numbers)) (zeros zero) ∙ none_taken_from_zeros count numbers (λ index. zeros (suc index))

pub zero_from_none_taken : (n : ℕ) (all : List ℕ) → list_any (nat_lt 0) (take n all) ≡ false → (k : ℕ) → k < n → get_or all k 0 ≡ 0
zero_from_none_taken zero all none k within = absurd (omega (arith, within))
zero_from_none_taken (suc n) [] none k within = refl
zero_from_none_taken (suc n) (x ∷ all) none zero within =
    elim (cases_lt 0 x) [
      | inl some ↦ absurd (true≢false (sym (rw (lt-ltb 0 x some) refl) ∙ none))
      | inr least ↦ omega (arith, least)
    ]
zero_from_none_taken (suc n) (x ∷ all) none (suc k) within = zero_from_none_taken n all (or_parts (nat_lt 0 x) (list_any (nat_lt 0) (take n all)) none) k (omega (arith, within))
  where
    or_parts : (a b : Bool) → (a || b) ≡ false → b ≡ false
    or_parts true b holds = absurd (true≢false holds)
    or_parts false b holds = holds

pub not_among : (x : ℕ) (rest : List ℕ) → not (list_any (λ other. other == x) rest) ≡ true → (k : ℕ) → k < length rest → x ≢ get_or rest k 0
not_among x [] none k within = absurd (omega (arith, within))
not_among x (y ∷ rest) none zero within = λ same. absurd (true≢false (sym none ∙ rw (eq-eqb y x (sym same)) refl))
not_among x (y ∷ rest) none (suc k) within = not_among x rest (later (y == x) none) k (omega (arith, within))
  where
    later : (b : Bool) → not (b || list_any (λ other. other == x) rest) ≡ true → not (list_any (λ other. other == x) rest) ≡ true
    later false is = is
    later true is = absurd (true≢false (sym is))

-- a number that fails a test is not among those that pass it
pub not_among_kept : (f : ℕ → Bool) (number : ℕ) (numbers : List ℕ) → f number ≡ false → list_any (λ n. f n && (n == number)) numbers ≡ false
not_among_kept f number numbers off =
    false_from_ne_true (list_any (λ n. f n && (n == number)) numbers) (λ is. true≢false (sym (any_found f number numbers is) ∙ off))
