-- Texts cut at a sign that they do not contain.
use Rattle.std.proofs.Common.{◌≡◌, ℕ, zero, suc, ◌+◌, ◌≤◌, Bool, true, false, eqb, nat_lt, if◌then◌else◌, List, [], ◌∷◌, ◌++◌, map, All, refl, ap, ◌∙◌, arith}
use Rattle.std.specs.List.{flat_map, list_all, range_with_len}
use Rattle.std.proofs.lemmas.Bool.{and_parts, eq-eqb, lt-ltb}
use Rattle.std.proofs.lemmas.List.{append-nil}
use Rattle.std.proofs.lemmas.List.Splits.{slice_split_at, slice_split_none}
use Rattle.acpc_game.specs.Parts.{parts_of}
use Rattle.acpc_format.specs.Seats.{bar_before, for_seats}
use Rattle.card_set.proofs.Entries.{never_at}
use Rattle.card_set.proofs.Tests.{both_true}

-- the signs of a text pass a test
pub record Passes (p : ℕ → Bool) (text : List ℕ) : Type 0 where
  pub all : list_all p text ≡ true

pub passes_none : (p : ℕ → Bool) → Passes p []
passes_none p = record { all = refl }

pub passes_more : (p : ℕ → Bool) (sign : ℕ) (text : List ℕ) → p sign ≡ true → Passes p text → Passes p (sign ∷ text)
passes_more p sign text one rest = record { all = both_true (p sign) (list_all p text) one rest.all }

pub passes_both : (p : ℕ → Bool) (text more : List ℕ) → Passes p text → Passes p more → Passes p (text ++ more)
passes_both p [] more one other = other
passes_both p (sign ∷ text) more one other =
    let parts = and_parts (p sign) (list_all p text) one.all in
    passes_more p sign (text ++ more) parts.0 (passes_both p text more (record { all = parts.1 }) other)

-- what passes a test passes a weaker one
pub passes_wider : (p q : ℕ → Bool) (text : List ℕ) → ((sign : ℕ) → p sign ≡ true → q sign ≡ true) → Passes p text → Passes q text
passes_wider p q [] wider one = passes_none q
passes_wider p q (sign ∷ text) wider one =
    let parts = and_parts (p sign) (list_all p text) one.all in
    passes_more q sign text (wider sign parts.0) (passes_wider p q text wider (record { all = parts.1 }))

-- a sign that fails the test is not in a text that passes it
pub free : (p : ℕ → Bool) (sign : ℕ) (text : List ℕ) → p sign ≡ false → Passes p text → All (λ b. eqb b sign ≡ false) text
free p sign text fails passes = λ k d within. never_at p sign text fails passes.all k d within

pub cut : (p : ℕ → Bool) (sign : ℕ) (text rest : List ℕ) → p sign ≡ false → Passes p text → parts_of sign (text ++ sign ∷ rest) ≡ text ∷ parts_of sign rest
cut p sign text rest fails passes = slice_split_at (λ b. eqb b sign) text sign rest (free p sign text fails passes) (eq-eqb sign sign refl)

pub whole : (p : ℕ → Bool) (sign : ℕ) (text : List ℕ) → p sign ≡ false → Passes p text → parts_of sign text ≡ text ∷ []
whole p sign text fails passes = slice_split_none (λ b. eqb b sign) text (free p sign text fails passes)

-- the texts of more seats after a text
barred : (p : ℕ → Bool) (text : ℕ → List ℕ) (front : List ℕ) (first count last : ℕ) → p 124 ≡ false → 2 ≤ first → first + count ≤ last + 1
    → ((seat : ℕ) → 1 ≤ seat → seat ≤ last → Passes p (text seat)) → Passes p front
    → parts_of 124 (front ++ flat_map (λ seat. bar_before seat ++ text seat) (range_with_len first count)) ≡ front ∷ map text (range_with_len first count)
barred p text front first zero last fails low high each passes = ap (parts_of 124) (append-nil front) ∙ whole p 124 front fails passes
barred p text front first (suc count) last fails low high each passes =
    let rest = flat_map (λ seat. bar_before seat ++ text seat) (range_with_len (first + 1) count) in
    let one : bar_before first ++ text first ≡ 124 ∷ text first = rw (lt-ltb 1 first low) refl in
    ap (λ (l : List ℕ). parts_of 124 (front ++ (l ++ rest))) one
    ∙ cut p 124 front (text first ++ rest) fails passes
    ∙ ap (λ (parts : List (List ℕ)). front ∷ parts)
    (barred p text (text first) (first + 1) count last fails (omega (arith, low)) (omega (arith, high)) each (each first (omega (arith, low)) (omega (arith, high))))

-- the texts of seats are cut at the bars
pub cut_seats : (p : ℕ → Bool) (text : ℕ → List ℕ) (count : ℕ) → p 124 ≡ false → 1 ≤ count
    → ((seat : ℕ) → 1 ≤ seat → seat ≤ count → Passes p (text seat)) → parts_of 124 (for_seats text count) ≡ map text (range_with_len 1 count)
cut_seats p text zero fails some each = absurd (omega (arith, some))
cut_seats p text (suc count) fails some each =
    barred p text (text 1) 2 count (suc count) fails (omega arith) (omega arith) each (each 1 (omega arith) (omega arith))

-- if texts pass with bars, the texts of all seats do
pub passes_seats : (p : ℕ → Bool) (text : ℕ → List ℕ) (first count last : ℕ) → p 124 ≡ true → 1 ≤ first → first + count ≤ last + 1
    → ((seat : ℕ) → 1 ≤ seat → seat ≤ last → Passes p (text seat)) → Passes p (flat_map (λ seat. bar_before seat ++ text seat) (range_with_len first count))
passes_seats p text first zero last bar low high each = passes_none p
passes_seats p text first (suc count) last bar low high each =
    passes_both p (bar_before first ++ text first) (flat_map (λ seat. bar_before seat ++ text seat) (range_with_len (first + 1) count))
    (passes_both p (bar_before first) (text first) (passes_bar (nat_lt 1 first)) (each first low (omega (arith, high))))
    (passes_seats p text (first + 1) count last bar (omega (arith, low)) (omega (arith, high)) each)
  where
    passes_bar : (barred : Bool) → Passes p (if barred then 124 ∷ [] else [])
    passes_bar true = passes_more p 124 [] bar (passes_none p)
    passes_bar false = passes_none p
