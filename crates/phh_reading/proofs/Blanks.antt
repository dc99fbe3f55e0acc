-- What is skipped before more text.
use Rattle.std.proofs.Common.{◌≡◌, ℕ, ◌≤◌, Bool, false, List, [], ◌∷◌, ◌++◌, length, is_some, unwrap_or, refl, ap, inl, inr, ◌⊎◌, arith, eqb-true}
use Rattle.std.proofs.lemmas.Bool.{cases_Bool, false≢true}
use Rattle.std.proofs.lemmas.List.{drop-append-le, take-append-le}
use Rattle.std.specs.List.{prefix_len}
use Rattle.toml_parser.specs.Lexical.{first, is_ws, skip_ws, skip_turn, skip_from, split_while, starts_newline}
use Rattle.phh_reading.proofs.Ends.{Ends, ends_drop, run_more}

-- the byte at the front is the same
pub first_more : (s r : List ℕ) → Ends s → first (s ++ r) ≡ first s
first_more [] r e = absurd (false≢true e)
first_more (c ∷ cs) r e = refl

pub starts_newline_more : (s r : List ℕ) → Ends s → starts_newline (s ++ r) ≡ starts_newline s
starts_newline_more [] r e = absurd (false≢true e)
starts_newline_more (c ∷ []) r e =
    let is : c ≡ 10 = eqb-true c 10 e in
    rw is refl
starts_newline_more (c ∷ d ∷ cs) r e = refl

pub split_more : (p : ℕ → Bool) (s r : List ℕ) → p 10 ≡ false → Ends s
    → (split_while p (s ++ r) ≡ ((split_while p s).0, (split_while p s).1 ++ r)) × Ends (split_while p s).1
split_more p s r stop e =
    let run = run_more p s r stop e in
    let within : prefix_len p s ≤ length s = omega (arith, run.1) in
    (rw (run.0, take-append-le (prefix_len p s) s r within, drop-append-le (prefix_len p s) s r within) refl, ends_drop (prefix_len p s) s e run.1)

pub skip_ws_more : (s r : List ℕ) → Ends s → Ends (skip_ws s) × (skip_ws (s ++ r) ≡ skip_ws s ++ r)
unfolding skip_ws
skip_ws_more s r e =
    let parts = split_more is_ws s r refl e in
    (parts.1, ap (λ p. p.1) parts.0)

-- what is skipped is the same, or it is the whole text, and goes on in the text after it
abbrev pub Skips : Bool → Bool → List ℕ → List ℕ → Type 0
Skips comments inside s r =
    ((skip_from comments inside s ≡ []) × (skip_from comments inside (s ++ r) ≡ skip_from comments false r))
    ⊎ (Ends (skip_from comments inside s) × (skip_from comments inside (s ++ r) ≡ skip_from comments inside s ++ r))

pub skip_more : (comments inside : Bool) (s r : List ℕ) → Ends s → Skips comments inside s r
unfolding skip_from
skip_more comments inside [] r e = absurd (false≢true e)
skip_more comments inside (c ∷ []) r e =
    let is : c ≡ 10 = eqb-true c 10 e in
    rw is (inl (refl, refl))
skip_more comments inside (c ∷ d ∷ cs) r e =
    elim (cases_Bool (is_some (skip_turn comments inside c d))) [
      | inl on ↦ rw on (skip_more comments (unwrap_or (skip_turn comments inside c d) false) (d ∷ cs) r e)
      | inr stop ↦ rw stop (inr (e, refl))
    ]
