-- Sums and counts over the seats of a hand if only one seat counts.
use Rattle.std.proofs.Common.{◌≡◌, ◌≢◌, ℕ, zero, suc, ◌+◌, ◌<◌, ◌≤◌, Bool, true, cond, refl, sym, ap, ◌∙◌, arith, count_by, sum_by, ⊎_elim}
use Rattle.std.proofs.lemmas.Bool.{cases_lt}
use Rattle.chip_ledger.specs.Seat.{seats_of}
use Rattle.chip_ledger.proofs.Seats.{sum_of_seats_more}
use Rattle.card_set.proofs.Tests.{one_if}

sum_of_next : (f : ℕ → ℕ) (n : ℕ) → sum_by f (seats_of (suc n)) ≡ sum_by f (seats_of n) + f (suc n)
sum_of_next f n = let e : suc n ≡ n + 1 = omega arith in ap (λ m. sum_by f (seats_of m)) e ∙ sum_of_seats_more f n ∙ ap (λ m. sum_by f (seats_of n) + f m) (sym e)

-- no seat has anything
pub sum_of_none : (f : ℕ → ℕ) (n : ℕ) → ((k : ℕ) → 1 ≤ k → k ≤ n → f k ≡ 0) → sum_by f (seats_of n) ≡ 0
sum_of_none f zero none = refl
sum_of_none f (suc n) none =
    omega (arith, sum_of_next f n, sum_of_none f n (λ k low high. none k low (omega (arith, high))), none (suc n) (omega arith) (omega arith))

-- one seat has everything
pub sum_of_one : (f : ℕ → ℕ) (n seat : ℕ)
    → 1 ≤ seat
    → seat ≤ n
    → ((k : ℕ) → 1 ≤ k → k ≤ n → k ≢ seat → f k ≡ 0)
    → sum_by f (seats_of n) ≡ f seat
sum_of_one f zero seat low high others = absurd (omega (arith, low, high))
sum_of_one f (suc n) seat low high others =
    ⊎_elim
    (λ (l : seat < suc n).
    let last : f (suc n) ≡ 0 = others (suc n) (omega arith) (omega arith) (λ is. absurd (omega (arith, is, l))) in
    omega (arith, sum_of_next f n, sum_of_one f n seat low (omega (arith, l)) (λ k from to. others k from (omega (arith, to))), last))
    (λ (l : suc n ≤ seat).
    let here : seat ≡ suc n = omega (arith, l, high) in
    let rest = sum_of_none f n (λ k from to. others k from (omega (arith, to)) (λ is. absurd (omega (arith, is, here, to)))) in
    omega (arith, sum_of_next f n, rest, ap f here))
    (cases_lt seat (suc n))

-- a seat that passes a test is counted
pub counts_one : (p : ℕ → Bool) (n seat : ℕ) → 1 ≤ seat → seat ≤ n → p seat ≡ true → 1 ≤ count_by p (seats_of n)
counts_one p zero seat low high passes = absurd (omega (arith, low, high))
counts_one p (suc n) seat low high passes =
    let next = sum_of_next (λ k. cond (p k) 1 0) n in
    ⊎_elim (λ (l : seat < suc n). omega (arith, next, counts_one p n seat low (omega (arith, l)) passes))
    (λ (l : suc n ≤ seat).
    let here : seat ≡ suc n = omega (arith, l, high) in
    omega (arith, next, ap one_if (sym (ap p here) ∙ passes)))
    (cases_lt seat (suc n))

-- if at most one seat passes a test, two seats that pass it are the same
pub passes_once : (p : ℕ → Bool) (n a b : ℕ)
    → count_by p (seats_of n) ≤ 1
    → 1 ≤ a
    → a ≤ n
    → p a ≡ true
    → 1 ≤ b
    → b ≤ n
    → p b ≡ true
    → a ≡ b
passes_once p zero a b few low high passes low_b high_b passes_b = absurd (omega (arith, low, high))
passes_once p (suc n) a b few low high passes low_b high_b passes_b =
    let next = sum_of_next (λ k. cond (p k) 1 0) n in
    let last : (k : ℕ) → suc n ≤ k → k ≤ suc n → p k ≡ true → one_if (p (suc n)) ≡ 1 =
    λ k from to is. let here : k ≡ suc n = omega (arith, from, to) in ap one_if (sym (ap p here) ∙ is) in
    ⊎_elim
    (λ (l : a < suc n).
    ⊎_elim
    (λ (m : b < suc n). passes_once p n a b (omega (arith, few, next)) low (omega (arith, l)) passes low_b (omega (arith, m)) passes_b)
    (λ (m : suc n ≤ b). absurd (omega (arith, few, next, last b m high_b passes_b, counts_one p n a low (omega (arith, l)) passes)))
    (cases_lt b (suc n)))
    (λ (l : suc n ≤ a).
    ⊎_elim
    (λ (m : b < suc n). absurd (omega (arith, few, next, last a l high passes, counts_one p n b low_b (omega (arith, m)) passes_b)))
    (λ (m : suc n ≤ b). omega (arith, l, m, high, high_b))
    (cases_lt b (suc n)))
    (cases_lt a (suc n))
