-- The front of a text: its digits, and its lines up to a line feed.
use Rattle.std.proofs.Common.{◌≡◌, ℕ, zero, suc, ◌+◌, ◌-◌, ◌<◌, true, ◌==◌, List, [], ◌∷◌, length, get_or, slice_index, take, drop, refl, ap, inl, inr, ◌⊎◌, arith}
use Rattle.std.proofs.lemmas.Bool.{cases_Bool, cases_lt, false≢true}
use Rattle.std.proofs.lemmas.Bool.Decides.{nat_tests}
use Rattle.std.proofs.Math.ListN.{drop_of_length-le}
use Rattle.std.specs.Char.{is_ascii_digit, is_digit}
use Rattle.std.specs.List.{list_all, prefix_len}
use Rattle.toml_parser.specs.Lexical.{starts_newline}
use Rattle.phh_reading.proofs.Ends.{Ends}

-- the digits at the front are digits
pub digits_run : (s : List ℕ) → list_all (λ sign. is_digit sign 10) (take (prefix_len is_ascii_digit s) s) ≡ true
digits_run [] = refl
digits_run (c ∷ cs) =
    elim (cases_Bool (is_ascii_digit c)) [
      | inl digit ↦
          let here : is_digit c 10 ≡ true = grind (arith, nat_tests) in
          let next : 1 + prefix_len is_ascii_digit cs ≡ suc (prefix_len is_ascii_digit cs) = omega arith in
          rw (digit, next, here) (digits_run cs)
      | inr other ↦ rw other refl
    ]

-- the front up to a line feed ends with it
ends_take : (n : ℕ) (s : List ℕ) → n < length s → get_or s n 0 ≡ 10 → Ends (take (suc n) s)
ends_take n [] h e = absurd (omega arith)
ends_take zero (c ∷ cs) h e = ap (λ byte. byte == 10) e
ends_take (suc n) (c ∷ []) h e = absurd (omega arith)
ends_take (suc n) (c ∷ d ∷ cs) h e = ends_take n (d ∷ cs) (omega arith) e

-- the lines at the front of a text are all of it, or end with a line feed
pub front_whole : (n : ℕ) (s : List ℕ) → (n < length s → (0 < n) × (slice_index s (n - 1) ≡ 10)) → (drop n s ≡ []) ⊎ Ends (take n s)
front_whole zero s line =
    elim (cases_lt 0 (length s)) [
      | inl lt ↦ absurd (omega (arith, (line lt).0))
      | inr past ↦ inl (drop_of_length-le s past)
    ]
front_whole (suc n) s line =
    elim (cases_lt (suc n) (length s)) [
      | inl lt ↦
          let less : suc n - 1 ≡ n = omega arith in
          inr (ends_take n s (omega arith) (rw less at (line lt).1))
      | inr past ↦ inl (drop_of_length-le s past)
    ]

-- and begin as it does
pub front_newline : (n : ℕ) (s : List ℕ) → (n < length s → (0 < n) × (slice_index s (n - 1) ≡ 10)) → starts_newline s ≡ true → starts_newline (take n s) ≡ true
front_newline n [] line is = absurd (false≢true is)
front_newline zero (c ∷ cs) line is = absurd (omega (arith, (line (omega arith)).0))
front_newline (suc zero) (c ∷ []) line is = is
front_newline (suc zero) (c ∷ d ∷ cs) line is =
    let here : c ≡ 10 = (line (omega arith)).1 in
    rw here refl
front_newline (suc (suc n)) (c ∷ []) line is = is
front_newline (suc (suc n)) (c ∷ d ∷ cs) line is = is
