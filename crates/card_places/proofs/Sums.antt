-- Sums over the numbers of a range.
use Rattle.std.proofs.Common.{◌≡◌, ◌≢◌, ℕ, zero, suc, ◌+◌, ◌*◌, ◌<◌, ◌≤◌, Bool, true, false, nat_eq, refl, sym, subst, arith}
use Rattle.std.proofs.lemmas.Bool.{eqb-true}
use Rattle.card_places.specs.Room.{sum_from}
use Rattle.card_set.proofs.Numbers.{next_above, unequal}

pub sum_least : (f g : ℕ → ℕ) (first n : ℕ) → ((k : ℕ) → first ≤ k → g k ≤ f k) → sum_from g first n ≤ sum_from f first n
sum_least f g first zero less = omega arith
sum_least f g first (suc n) less = omega (arith, less first (omega arith), sum_least f g (first + 1) n (λ k from. less k (omega (arith, from))))

-- one term is greater by this much
pub sum_more : (f g : ℕ → ℕ) (first n k c : ℕ) → ((j : ℕ) → g j ≤ f j) → first ≤ k → k < first + n → g k + c ≤ f k → sum_from g first n + c ≤ sum_from f first n
sum_more f g first zero k c less low high more = absurd (omega (arith, low, high))
sum_more f g first (suc n) k c less low high more = by_first (nat_eq first k) refl
    (λ (later : first + 1 ≤ k). sum_more f g (first + 1) n k c less later (omega (arith, high)) more)
  where
    by_first : (b : Bool) → nat_eq first k ≡ b → (first + 1 ≤ k → sum_from g (first + 1) n + c ≤ sum_from f (first + 1) n) → g first + sum_from g (first + 1) n + c ≤ f first + sum_from f (first + 1) n
    by_first true is later =
        let here : g first + c ≤ f first = subst (λ (j : ℕ). g j + c ≤ f j) (sym (eqb-true first k is)) more in
        omega (arith, here, sum_least f g (first + 1) n (λ j from. less j))
    by_first false is later = omega (arith, less first, later (next_above first k low is))

-- at most one term is greater, and by at most `c`
pub sum_most_more : (f g : ℕ → ℕ) (first n k c : ℕ) → ((j : ℕ) → j ≢ k → f j ≤ g j) → f k ≤ g k + c → sum_from f first n ≤ sum_from g first n + c
sum_most_more f g first zero k c less more = omega arith
sum_most_more f g first (suc n) k c less more = by_first (nat_eq first k) refl (sum_most_more f g (first + 1) n k c less more)
  where
    by_first : (b : Bool) → nat_eq first k ≡ b → sum_from f (first + 1) n ≤ sum_from g (first + 1) n + c → f first + sum_from f (first + 1) n ≤ g first + sum_from g (first + 1) n + c
    by_first true is later =
        let same : first ≡ k = eqb-true first k is in
        let here : f first ≤ g first + c = subst (λ (j : ℕ). f j ≤ g j + c) (sym same) more in
        omega (arith, here, sum_least g f (first + 1) n (λ j from. less j (λ is_k. absurd (omega (arith, from, is_k, same)))))
    by_first false is later = omega (arith, less first (unequal first k is), later)

pub sum_most : (f : ℕ → ℕ) (c first n : ℕ) → ((k : ℕ) → f k ≤ c) → sum_from f first n ≤ n * c
sum_most f c first zero less = omega arith
sum_most f c first (suc n) less = let step : suc n * c ≡ c + n * c = mul_step n c in omega (arith, less first, sum_most f c (first + 1) n less, step)
  where
    mul_step : (n c : ℕ) → suc n * c ≡ c + n * c
    mul_step n c = grind arith
