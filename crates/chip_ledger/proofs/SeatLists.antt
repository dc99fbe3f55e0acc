-- Walks over the seats of a hand, seat by seat.
use Rattle.std.proofs.Common.{◌≡◌, ℕ, ◌+◌, ◌≤◌, Bool, true, false, ◌||◌, cond, [], ◌∷◌, Option, Some, refl, ap, ◌∙◌, arith, map, count_by, max, find, reverse, unwrap_or, zero, suc, inl, inr, sym}
use Rattle.std.proofs.lemmas.Bool.{or_parts, cases_lt}
use Rattle.std.proofs.lemmas.List.{map-append, reverse-append}
use Rattle.std.specs.List.{list_any}
use Rattle.chip_ledger.proofs.Seats.{seats_of_more}
use Rattle.chip_ledger.specs.Greatest.{greatest}
use Rattle.chip_ledger.specs.Seat.{seats_of}
use Rattle.card_set.proofs.Counting.{count_by-push, count_agree}
use Rattle.card_set.proofs.Finding.{list_any-push, any_agree}
use Rattle.chip_ledger.proofs.Stakes.{greatest-push}

-- one more seat
pub greatest_more : (f : ℕ → ℕ) (n : ℕ) → greatest (map f (seats_of (n + 1))) ≡ max (greatest (map f (seats_of n))) (f (n + 1))
greatest_more f n =
    ap (λ xs. greatest (map f xs)) (seats_of_more n)
    ∙ ap greatest (map-append f (seats_of n) ((n + 1) ∷ []))
    ∙ greatest-push (map f (seats_of n)) (f (n + 1))

pub any_more : (p : ℕ → Bool) (n : ℕ) → list_any p (seats_of (n + 1)) ≡ (list_any p (seats_of n) || p (n + 1))
any_more p n = ap (list_any p) (seats_of_more n) ∙ list_any-push p (seats_of n) (n + 1)

pub count_more : (p : ℕ → Bool) (n : ℕ) → count_by p (seats_of (n + 1)) ≡ count_by p (seats_of n) + cond (p (n + 1)) 1 0
count_more p n = ap (count_by p) (seats_of_more n) ∙ count_by-push p (seats_of n) (n + 1)

pub any_seats : (p q : ℕ → Bool) (n : ℕ) → ((k : ℕ) → 1 ≤ k → k ≤ n → p k ≡ q k) → list_any p (seats_of n) ≡ list_any q (seats_of n)
any_seats p q n h = any_agree p q 1 n (λ k low high. h k low (omega (arith, high)))

pub count_seats : (p q : ℕ → Bool) (n : ℕ) → ((k : ℕ) → 1 ≤ k → k ≤ n → p k ≡ q k) → count_by p (seats_of n) ≡ count_by q (seats_of n)
count_seats p q n h = count_agree p q 1 n (λ k low high. h k low (omega (arith, high)))

last_by : (b : Bool) (x : ℕ) (rest : Option ℕ) → unwrap_or (cond b (Some x) rest) 0 ≡ cond b x (unwrap_or rest 0)
last_by true x rest = refl
last_by false x rest = refl

-- the last seat that passes, one more seat
pub last_more : (p : ℕ → Bool) (n : ℕ) → unwrap_or (find p (reverse (seats_of (n + 1)))) 0 ≡ cond (p (n + 1)) (n + 1) (unwrap_or (find p (reverse (seats_of n))) 0)
last_more p n =
    ap (λ xs. unwrap_or (find p (reverse xs)) 0) (seats_of_more n)
    ∙ ap (λ xs. unwrap_or (find p xs) 0) (reverse-append (seats_of n) ((n + 1) ∷ []))
    ∙ last_by (p (n + 1)) (n + 1) (find p (reverse (seats_of n)))

-- a seat, if none of the seats passes
pub none_at : (p : ℕ → Bool) (n k : ℕ) → 1 ≤ k → k ≤ n → list_any p (seats_of n) ≡ false → p k ≡ false
none_at p zero k low high none = absurd (omega (arith, low, high))
none_at p (suc n) k low high none =
    let up : n + 1 ≡ suc n = omega arith in
    let parts = or_parts (list_any p (seats_of n)) (p (n + 1)) (sym (any_more p n) ∙ ap (λ (m : ℕ). list_any p (seats_of m)) up ∙ none) in
    elim (cases_lt k (n + 1)) [
      | inl before ↦ none_at p n k low (omega (arith, before)) parts.0
      | inr after ↦ let same : k ≡ n + 1 = omega (arith, after, high) in ap p same ∙ parts.1
    ]
