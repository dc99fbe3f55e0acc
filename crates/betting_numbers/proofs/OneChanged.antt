-- Sums, counts and the greatest value over numbers in a row, where the value of one number changed.
use Rattle.std.proofs.Common.{◌≡◌, ◌≢◌, ℕ, zero, suc, ◌+◌, ◌-◌, ◌<◌, ◌≤◌, Bool, true, false, ◌&&◌, ◌||◌, ◌==◌, not, nat_lt, max, cond, if◌then◌else◌, inl, inr, List, [], ◌∷◌, map, count_by, sum_by, refl, sym, ap, ◌∙◌, arith}
use Rattle.std.specs.List.{list_any, range_with_len}
use Rattle.std.proofs.lemmas.Bool.{true≢false, cases_lt, eq-eqb, ne_eqb}
use Rattle.std.proofs.lemmas.Bool.Decides.{nat_tests}
use Rattle.std.proofs.lemmas.List.Sums.{sum_by-cons}
use Rattle.chip_ledger.specs.Greatest.{greatest}
use Rattle.card_set.proofs.Counting.{count_by-cons}
use Rattle.card_set.proofs.Finding.{any_agree}
use Rattle.card_set.proofs.NumbersOfRange.{map_agree, sum_agree}

-- the sum
pub sum_changed : (f g : ℕ → ℕ) (first n k : ℕ) → first ≤ k → k < first + n
    → ((j : ℕ) → first ≤ j → j < first + n → j ≢ k → g j ≡ f j)
    → sum_by g (range_with_len first n) + f k ≡ sum_by f (range_with_len first n) + g k
sum_changed f g first zero k low high others = absurd (omega (arith, low, high))
sum_changed f g first (suc n) k low high others = elim (cases_lt first k) [
  | inl before ↦
      let later = sum_changed f g (first + 1) n k (omega (arith, before)) (omega (arith, high)) (λ j from to other. others j (omega (arith, from)) (omega (arith, to)) other) in
      let here : g first ≡ f first = others first (omega arith) (omega arith) (λ is. absurd (omega (arith, is, before))) in
      omega (arith, sum_by-cons f first (range_with_len (first + 1) n), sum_by-cons g first (range_with_len (first + 1) n), later, here)
  | inr from_here ↦
      let same : k ≡ first = omega (arith, from_here, low) in
      let later = sum_agree g f (first + 1) n (λ j from to. others j (omega (arith, from)) (omega (arith, to)) (λ is. absurd (omega (arith, is, same, from)))) in
      omega (arith, sum_by-cons f first (range_with_len (first + 1) n), sum_by-cons g first (range_with_len (first + 1) n), later, ap f same, ap g same)
]

-- the number that passes a test
pub count_changed : (p q : ℕ → Bool) (first n k : ℕ) → first ≤ k → k < first + n
    → ((j : ℕ) → first ≤ j → j < first + n → j ≢ k → q j ≡ p j)
    → count_by q (range_with_len first n) + cond (p k) 1 0 ≡ count_by p (range_with_len first n) + cond (q k) 1 0
count_changed p q first n k low high others =
    sum_changed (λ j. cond (p j) 1 0) (λ j. cond (q j) 1 0) first n k low high (λ j from to other. ap (λ b. cond b 1 0) (others j from to other))

fell_by : (count rest : ℕ) (was is : Bool) → (is ≡ true → was ≡ true) → rest + cond was 1 0 ≡ count + cond is 1 0
    → rest ≡ (if was && not is then count - 1 else count)
fell_by count rest true true h sum = omega (arith, sum)
fell_by count rest true false h sum = omega (arith, sum)
fell_by count rest false true h sum = absurd (true≢false (sym (h refl)))
fell_by count rest false false h sum = omega (arith, sum)

-- and if the number does not pass a test that it did not pass before
pub count_fell : (p q : ℕ → Bool) (first n k : ℕ) (was is : Bool) → first ≤ k → k < first + n → was ≡ p k → is ≡ q k → (is ≡ true → was ≡ true)
    → ((j : ℕ) → first ≤ j → j < first + n → j ≢ k → q j ≡ p j)
    → count_by q (range_with_len first n) ≡ (if was && not is then count_by p (range_with_len first n) - 1 else count_by p (range_with_len first n))
count_fell p q first n k was is low high was_is is_is none_new others =
    fell_by (count_by p (range_with_len first n)) (count_by q (range_with_len first n)) was is none_new
    (omega (arith, ap (λ (b : Bool). cond {A = ℕ} b 1 0) was_is, ap (λ (b : Bool). cond {A = ℕ} b 1 0) is_is, count_changed p q first n k low high others))

-- the greatest value, if the value did not fall
pub greatest_changed : (f g : ℕ → ℕ) (first n k : ℕ) → first ≤ k → k < first + n → f k ≤ g k
    → ((j : ℕ) → first ≤ j → j < first + n → j ≢ k → g j ≡ f j)
    → greatest (map g (range_with_len first n)) ≡ max (greatest (map f (range_with_len first n))) (g k)
greatest_changed f g first zero k low high more others = absurd (omega (arith, low, high))
greatest_changed f g first (suc n) k low high more others = elim (cases_lt first k) [
  | inl before ↦
      let later = greatest_changed f g (first + 1) n k (omega (arith, before)) (omega (arith, high)) more (λ j from to other. others j (omega (arith, from)) (omega (arith, to)) other) in
      let here : g first ≡ f first = others first (omega arith) (omega arith) (λ is. absurd (omega (arith, is, before))) in
      omega (arith, later, here)
  | inr from_here ↦
      let same : k ≡ first = omega (arith, from_here, low) in
      let later = ap greatest (map_agree g f (first + 1) n (λ j from to. others j (omega (arith, from)) (omega (arith, to)) (λ is. absurd (omega (arith, is, same, from))))) in
      omega (arith, later, more, ap f same, ap g same)
]

-- an element passes if the count of those that pass is not 0
any_by : (b : Bool) (any : Bool) (count : ℕ) → any ≡ nat_lt 0 count → (b || any) ≡ nat_lt 0 (cond b 1 0 + count)
any_by true any count is = grind (arith, nat_tests)
any_by false any count is = let same : count ≡ 0 + count = omega arith in is ∙ ap (nat_lt 0) same

pub any_counted : {X : Type 0} (p : X → Bool) (xs : List X) → list_any p xs ≡ nat_lt 0 (count_by p xs)
any_counted p [] = refl
any_counted p (x ∷ xs) = any_by (p x) (list_any p xs) (count_by p xs) (any_counted p xs) ∙ ap (nat_lt 0) (sym (count_by-cons p x xs))

and_other : (b e : Bool) → e ≡ false → (b && not e) ≡ b
and_other true e is = ap not is
and_other false e is = refl

and_same : (b e : Bool) → e ≡ true → (b && not e) ≡ false
and_same true e is = ap not is
and_same false e is = refl

others_by : (others own all none : ℕ) → none ≡ 0 → others + own ≡ all + none → nat_lt 0 others ≡ nat_lt own all
others_by others own all none is sum = grind (arith, nat_tests)

-- another number passes if more pass than this one
pub another_passes : (p : ℕ → Bool) (first n k : ℕ) → first ≤ k → k < first + n
    → list_any (λ j. p j && not (j == k)) (range_with_len first n) ≡ nat_lt (cond (p k) 1 0) (count_by p (range_with_len first n))
another_passes p first n k low high =
    let q : ℕ → Bool = λ j. p j && not (j == k) in
    let none : ◌≡◌ {A = ℕ} (cond (q k) 1 0) 0 = ap (λ b. cond b 1 0) (and_same (p k) (k == k) (eq-eqb k k refl)) in
    any_counted q (range_with_len first n)
    ∙ others_by (count_by q (range_with_len first n)) (cond (p k) 1 0) (count_by p (range_with_len first n)) (cond (q k) 1 0) none
    (count_changed p q first n k low high (λ j from to other. and_other (p j) (j == k) (ne_eqb j k other)))

-- and if any passes, when this one is not among the numbers
pub any_passes : (p : ℕ → Bool) (first n k : ℕ) → first + n ≤ k
    → list_any (λ j. p j && not (j == k)) (range_with_len first n) ≡ nat_lt 0 (count_by p (range_with_len first n))
any_passes p first n k out =
    any_agree (λ j. p j && not (j == k)) p first n (λ j from to. and_other (p j) (j == k) (ne_eqb j k (λ is. absurd (omega (arith, is, to, out)))))
    ∙ any_counted p (range_with_len first n)
