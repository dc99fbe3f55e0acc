-- Lists and sums over the seats of a hand.
use Rattle.std.proofs.Common.{◌≡◌, ℕ, ◌+◌, ◌≤◌, Bool, cond, ◌∷◌, [], ◌++◌, zero, suc, refl, sym, ap, ◌∙◌, arith, filter, map, sum, sum_by, add-one}
use Rattle.std.proofs.lemmas.List.{map-append}
use Rattle.std.proofs.lemmas.List.Elements.{filter-append}
use Rattle.std.proofs.lemmas.List.Sums.{sum-map, sum_by_push}
use Rattle.card_set.proofs.Ranges.{range_more}
use Rattle.chip_ledger.specs.Seat.{seats_of}

pub seats_of_more : (n : ℕ) → seats_of (n + 1) ≡ seats_of n ++ (n + 1) ∷ []
seats_of_more n =
    let e : 1 + n ≡ n + 1 = omega arith in
    ap seats_of (add-one n) ∙ range_more 1 n ∙ ap (λ x. seats_of n ++ x ∷ []) e

-- the sum over one more seat
pub sum_of_seats_more : (f : ℕ → ℕ) (n : ℕ)
    → sum_by f (seats_of (n + 1)) ≡ sum_by f (seats_of n) + f (n + 1)
sum_of_seats_more f n = ap (sum_by f) (seats_of_more n) ∙ sum_by_push f (seats_of n) (n + 1)

-- tests that agree at each seat keep the same seats
pub filter-seats : (p q : ℕ → Bool) (n : ℕ)
    → ((k : ℕ) → 1 ≤ k → k ≤ n → p k ≡ q k)
    → filter p (seats_of n) ≡ filter q (seats_of n)
filter-seats p q zero h = refl
filter-seats p q (suc n) h =
    let e : suc n ≡ n + 1 = omega arith in
    let last : (p : ℕ → Bool)
    → filter p (seats_of (suc n)) ≡ filter p (seats_of n) ++ filter p ((n + 1) ∷ []) =
    λ p. ap (λ m. filter p (seats_of m)) e
    ∙ ap (filter p) (seats_of_more n)
    ∙ filter-append p (seats_of n) ((n + 1) ∷ []) in
    let same : filter p ((n + 1) ∷ []) ≡ filter q ((n + 1) ∷ []) =
    ap (λ t. cond t ((n + 1) ∷ []) []) (h (n + 1) (omega arith) (omega arith)) in
    last p
    ∙ ap (λ xs. xs ++ filter p ((n + 1) ∷ [])) (filter-seats p q n (λ k low high. h k low (omega arith)))
    ∙ ap (λ xs. filter q (seats_of n) ++ xs) same
    ∙ sym (last q)

-- functions that agree at each seat give the same list
pub map-seats : {X : Type 0} (f g : ℕ → X) (n : ℕ)
    → ((k : ℕ) → 1 ≤ k → k ≤ n → f k ≡ g k)
    → map f (seats_of n) ≡ map g (seats_of n)
map-seats f g zero h = refl
map-seats {X} f g (suc n) h =
    let e : suc n ≡ n + 1 = omega arith in
    let last : (f : ℕ → X) → map f (seats_of (suc n)) ≡ map f (seats_of n) ++ f (n + 1) ∷ [] =
    λ f. ap (λ m. map f (seats_of m)) e
    ∙ ap (map f) (seats_of_more n)
    ∙ map-append f (seats_of n) ((n + 1) ∷ []) in
    last f
    ∙ ap (λ xs. xs ++ f (n + 1) ∷ []) (map-seats f g n (λ k low high. h k low (omega arith)))
    ∙ ap (λ x. map g (seats_of n) ++ x ∷ []) (h (n + 1) (omega arith) (omega arith))
    ∙ sym (last g)

-- terms that agree at each seat have the same sum
pub sum-seats : (f g : ℕ → ℕ) (n : ℕ)
    → ((k : ℕ) → 1 ≤ k → k ≤ n → f k ≡ g k)
    → sum_by f (seats_of n) ≡ sum_by g (seats_of n)
sum-seats f g n h =
    sym (sum-map f (seats_of n)) ∙ ap sum (map-seats f g n h) ∙ sum-map g (seats_of n)
