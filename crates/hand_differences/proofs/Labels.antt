-- A text is the digits of a number if its last byte is the last digit and the bytes before it are
-- the digits of a tenth of it.
use Rattle.std.proofs.Common.{◌≡◌, ◌≢◌, ℕ, ◌+◌, ◌-◌, ◌/◌, ◌%◌, ◌^◌, ◌<◌, ◌≤◌, ◌==◌, false, bytes_eq, decimal, List, [], ◌∷◌, ◌++◌, length, take, get_or, inl, inr, refl, sym, ap, ◌∙◌, arith}
use Rattle.std.proofs.lemmas.Bool.{cases_lt, ne_eqb}
use Rattle.std.proofs.lemmas.Fmt.{decimal_digit, decimal_step}
use Rattle.std.proofs.lemmas.List.{get_or_push, length-append, take_all, take_at, take_more}
use Rattle.std.proofs.lemmas.Slice.Eq.{bytes_eq-Decides}
use Rattle.card_set.proofs.Bytes.{different_bytes, same_bytes}
use Rattle.card_set.proofs.Tests.{same_test}

-- if lists with one more byte each are the same, so were the lists
more_same : (front other : List ℕ) (last : ℕ) → front ++ last ∷ [] ≡ other ++ last ∷ [] → front ≡ other
more_same front other last same =
    let long : length other ≡ length front = omega (arith, ap (λ (l : List ℕ). length l) same, length-append front (last ∷ []), length-append other (last ∷ [])) in
    sym (take_at front (last ∷ []) (length front) refl) ∙ ap (take (length front)) same ∙ take_at other (last ∷ []) (length front) long

more_bytes : (front other : List ℕ) (last : ℕ) → bytes_eq front other ≡ bytes_eq (front ++ last ∷ []) (other ++ last ∷ [])
more_bytes front other last =
    same_test (bytes_eq front other) (bytes_eq (front ++ last ∷ []) (other ++ last ∷ []))
    (λ is. (bytes_eq-Decides (front ++ last ∷ []) (other ++ last ∷ [])).1 (ap (λ (l : List ℕ). l ++ last ∷ []) ((bytes_eq-Decides front other).0 is)))
    (λ is. (bytes_eq-Decides front other).1 (more_same front other last ((bytes_eq-Decides (front ++ last ∷ []) (other ++ last ∷ [])).0 is)))

-- a text that is not empty is the bytes before its last one, and that byte
split : (text : List ℕ) → 1 ≤ length text → text ≡ take (length text - 1) text ++ get_or text (length text - 1) 0 ∷ []
split text some =
    let all : length text - 1 + 1 ≡ length text = omega (arith, some) in
    sym (take_all (length text) text (omega arith)) ∙ ap (λ n. take n text) (sym all) ∙ take_more text (length text - 1) 0 (omega (arith, some))

-- the digits of a number end with its last one
ends : (number : ℕ) → number < 2 ^ 64 → (front : List ℕ) × (decimal number ≡ front ++ (48 + number % 10) ∷ [])
ends number fits = elim (cases_lt number 10) [
  | inl small ↦ let same : 48 + number ≡ 48 + number % 10 = omega (arith, small) in ([], decimal_digit number small ∙ ap (λ (digit : ℕ). digit ∷ []) same)
  | inr large ↦ (decimal (number / 10), decimal_step number large fits)
]

-- a text with another last byte is not these digits
pub other_digit : (text : List ℕ) (number : ℕ) → number < 2 ^ 64 → 1 ≤ length text → get_or text (length text - 1) 0 ≢ 48 + number % 10 → false ≡ bytes_eq text (decimal number)
other_digit text number fits some other =
    let it = ends number fits in
    sym (different_bytes text (decimal number) (λ same.
    let long : length it.0 ≡ length text - 1 = omega (arith, ap (λ (l : List ℕ). length l) (same ∙ it.1), length-append it.0 ((48 + number % 10) ∷ [])) in
    other (ap (λ (l : List ℕ). get_or l (length text - 1) 0) (same ∙ it.1) ∙ get_or_push it.0 (48 + number % 10) 0 (length text - 1) long)))

-- no digits are no text
pub no_digits : (text : List ℕ) (number : ℕ) → number < 2 ^ 64 → length text < 1 → false ≡ bytes_eq text (decimal number)
no_digits text number fits none =
    let it = ends number fits in
    sym (different_bytes text (decimal number) (λ same. omega (arith, none, ap (λ (l : List ℕ). length l) (same ∙ it.1), length-append it.0 ((48 + number % 10) ∷ []))))

-- one digit
pub one_digit : (text : List ℕ) (number : ℕ) → number < 10 → 1 ≤ length text → get_or text (length text - 1) 0 ≡ 48 + number % 10 → (length (take (length text - 1) text) == 0) ≡ bytes_eq text (decimal number)
one_digit text number small some is =
    let last : get_or text (length text - 1) 0 ≡ 48 + number = omega (arith, is, small) in
    empty (take (length text - 1) text)
    ∙ more_bytes (take (length text - 1) text) [] (48 + number)
    ∙ ap (λ (l : List ℕ). bytes_eq l ((48 + number) ∷ [])) (ap (λ (d : ℕ). take (length text - 1) text ++ d ∷ []) (sym last) ∙ sym (split text some))
    ∙ ap (bytes_eq text) (sym (decimal_digit number small))
  where
    empty : (front : List ℕ) → (length front == 0) ≡ bytes_eq front []
    empty [] = sym (same_bytes [])
    empty (first ∷ rest) = ne_eqb (length (first ∷ rest)) 0 (λ none. omega (arith, none)) ∙ sym (different_bytes (first ∷ rest) [] (λ same. omega (arith, ap (λ (l : List ℕ). length l) same)))

-- more digits
pub more_digits : (text : List ℕ) (number : ℕ) → 10 ≤ number → number < 2 ^ 64 → 1 ≤ length text → get_or text (length text - 1) 0 ≡ 48 + number % 10 → bytes_eq (take (length text - 1) text) (decimal (number / 10)) ≡ bytes_eq text (decimal number)
more_digits text number large fits some is =
    more_bytes (take (length text - 1) text) (decimal (number / 10)) (48 + number % 10)
    ∙ ap (λ (l : List ℕ). bytes_eq l (decimal (number / 10) ++ (48 + number % 10) ∷ [])) (ap (λ (d : ℕ). take (length text - 1) text ++ d ∷ []) (sym is) ∙ sym (split text some))
    ∙ ap (bytes_eq text) (sym (decimal_step number large fits))
