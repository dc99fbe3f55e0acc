-- Lemmas on sums over a list that was mapped or filtered, and on terms that agree.
use Rattle.std.proofs.Common.{Bool, List, [], ap, arith, cond, false, filter, map, refl, sum_by, sym, true, ℕ, ◌+◌, ◌∙◌, ◌∷◌, ◌≡◌, ◌==◌, ◌≤◌, ◌*◌, min, count_by}
use Rattle.std.proofs.lemmas.Bool.{or_parts}
use Rattle.std.proofs.lemmas.List.Sums.{sum_by-cons}
use Rattle.std.specs.List.{list_any}
use Rattle.card_set.proofs.Counting.{count_by-cons}

-- over a list that was mapped
pub sum_by-map : {X Y : Type 0} (f : Y → ℕ) (g : X → Y) (xs : List X)
    → sum_by f (map g xs) ≡ sum_by (λ x. f (g x)) xs
sum_by-map f g [] = refl
sum_by-map f g (x ∷ xs) =
    sum_by-cons f (g x) (map g xs)
    ∙ ap (λ n. f (g x) + n) (sum_by-map f g xs)
    ∙ sym (sum_by-cons (λ y. f (g y)) x xs)

-- terms that are sums themselves
pub sum_by-plus : {X : Type 0} (f g : X → ℕ) (xs : List X)
    → sum_by (λ x. f x + g x) xs ≡ sum_by f xs + sum_by g xs
sum_by-plus f g [] = refl
sum_by-plus f g (x ∷ xs) =
    omega (arith, sum_by-cons (λ y. f y + g y) x xs, sum_by-cons f x xs, sum_by-cons g x xs, sum_by-plus f g xs)

-- sums are equal if the terms are equal at each element at which a test fails that passes nowhere
pub sum_by-agree : {X : Type 0} (q : X → Bool) (f g : X → ℕ)
    → ((x : X) → q x ≡ false → f x ≡ g x)
    → (xs : List X)
    → list_any q xs ≡ false
    → sum_by f xs ≡ sum_by g xs
sum_by-agree q f g h [] e = refl
sum_by-agree q f g h (x ∷ xs) e =
    let parts = or_parts (q x) (list_any q xs) e in
    omega (arith, sum_by-cons f x xs, sum_by-cons g x xs, h x parts.0, sum_by-agree q f g h xs parts.1)

-- and if they are equal at each element
pub sum_by-same : {X : Type 0} (f g : X → ℕ)
    → ((x : X) → f x ≡ g x)
    → (xs : List X)
    → sum_by f xs ≡ sum_by g xs
sum_by-same f g h [] = refl
sum_by-same f g h (x ∷ xs) =
    omega (arith, sum_by-cons f x xs, sum_by-cons g x xs, h x, sum_by-same f g h xs)

-- one more element in front, if it is kept
pub sum_of_kept : {X : Type 0} (f : X → ℕ) (x : X) (ys : List X) (kept : Bool)
    → (kept ≡ false → f x ≡ 0)
    → sum_by f (cond kept (x ∷ ys) ys) ≡ f x + sum_by f ys
sum_of_kept f x ys true h = sum_by-cons f x ys
sum_of_kept f x ys false h = omega (arith, h refl)

-- a filter that drops only terms of 0 keeps the sum
pub sum_by-filter : {X : Type 0} (p : X → Bool) (f : X → ℕ)
    → ((x : X) → p x ≡ false → f x ≡ 0)
    → (xs : List X)
    → sum_by f (filter p xs) ≡ sum_by f xs
sum_by-filter p f h [] = refl
sum_by-filter p f h (x ∷ xs) =
    omega (arith, sum_of_kept f x (filter p xs) (p x) (h x), sum_by-filter p f h xs, sum_by-cons f x xs)

-- terms of 0
pub sum_by-zero : {X : Type 0} (f : X → ℕ) (xs : List X) → ((x : X) → f x ≡ 0) → sum_by f xs ≡ 0
sum_by-zero f [] none = refl
sum_by-zero f (x ∷ xs) none = omega (arith, sum_by-cons f x xs, none x, sum_by-zero f xs none)

-- terms of 0, of numbers
pub sum_by-none : (ks : List ℕ) → sum_by (λ k. 0) ks ≡ 0
sum_by-none [] = refl
sum_by-none (k ∷ ks) = omega (arith, sum_by-cons (λ k. 0) k ks, sum_by-none ks)

-- a number that is counted if a test for it passes
pub sum_by-at : (n h : ℕ) (ks : List ℕ) → sum_by (λ k. cond (h == k) n 0) ks ≡ n * sum_by (λ k. cond (h == k) 1 0) ks
sum_by-at n h [] = omega arith
sum_by-at n h (k ∷ ks) = omega (arith, sum_by-cons (λ k. cond (h == k) n 0) k ks, ap (λ (m : ℕ). n * m) (sum_by-cons (λ k. cond (h == k) 1 0) k ks), sum_by-at n h ks, here (h == k))
  where
    here : (b : Bool) → cond b n 0 + n * sum_by (λ k. cond (h == k) 1 0) ks ≡ n * (cond b 1 0 + sum_by (λ k. cond (h == k) 1 0) ks)
    here true = grind arith
    here false = grind arith

-- values of at most one have a sum of at most their number
pub once_sum : (T : ℕ → ℕ) (hs : List ℕ) → ((h : ℕ) → T h ≤ 1) → sum_by T hs ≤ sum_by (λ h. min 1 (T h)) hs
once_sum T [] once = omega arith
once_sum T (h ∷ hs) once = omega (arith, sum_by-cons T h hs, sum_by-cons (λ k. min 1 (T k)) h hs, once h, once_sum T hs once)

-- values of at most four have a sum of at most four for each that is there
pub some_sum : (T : ℕ → ℕ) (hs : List ℕ) → ((h : ℕ) → T h ≤ 4) → sum_by T hs ≤ 4 * sum_by (λ h. min 1 (T h)) hs
some_sum T [] few = omega arith
some_sum T (h ∷ hs) few = omega (arith, sum_by-cons T h hs, sum_by-cons (λ k. min 1 (T k)) h hs, few h, some_sum T hs few)

pub none_occur : (T : ℕ → ℕ) (hs : List ℕ) → ((h : ℕ) → T h ≡ 0) → sum_by (λ h. min 1 (T h)) hs ≡ 0
none_occur T [] none = refl
none_occur T (h ∷ hs) none = omega (arith, sum_by-cons (λ h. min 1 (T h)) h hs, none h, none_occur T hs none)

pub sum_by-cond : (n : ℕ) (p : ℕ → Bool) (ks : List ℕ) → sum_by (λ k. cond (p k) n 0) ks ≡ n * count_by p ks
sum_by-cond n p [] = omega arith
sum_by-cond n p (k ∷ ks) = omega (arith, sum_by-cons (λ k. cond (p k) n 0) k ks, ap (λ (m : ℕ). n * m) (count_by-cons p k ks), sum_by-cond n p ks, here (p k))
  where
    here : (b : Bool) → cond b n 0 + n * count_by p ks ≡ n * (cond b 1 0 + count_by p ks)
    here true = grind arith
    here false = grind arith
