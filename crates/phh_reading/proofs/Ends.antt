-- A text that ends with a line feed, and runs of bytes in it.
use Rattle.std.proofs.Common.{◌≡◌, ℕ, zero, suc, ◌+◌, ◌<◌, Bool, true, false, ◌==◌, List, [], ◌∷◌, ◌++◌, length, get_or, drop, Option, Some, None, option_map, option_and_then, refl, sym, ap, ◌∙◌, inl, inr, arith, eqb-true}
use Rattle.std.proofs.lemmas.Bool.{cases_Bool, true≢false, false≢true}
use Rattle.std.proofs.lemmas.Option.{none-some, same_Some}
use Rattle.std.specs.List.{prefix_len}
use Rattle.phh_reading.specs.Tables.{ends_line_feed}

abbrev pub Ends : List ℕ → Type 0
Ends s = ends_line_feed s ≡ true

-- what a step read, and what it did with it
pub then_some : {A B : Type 0} (f : A → Option B) (o : Option A) (y : B) → option_and_then f o ≡ Some y → (x : A) × (o ≡ Some x) × (f x ≡ Some y)
then_some f None y e = absurd (none-some y e)
then_some f (Some x) y e = (x, refl, e)

pub map_some : {A B : Type 0} (f : A → B) (o : Option A) (y : B) → option_map f o ≡ Some y → (x : A) × (o ≡ Some x) × (f x ≡ y)
map_some f None y e = absurd (none-some y e)
map_some f (Some x) y e = (x, refl, same_Some (f x) y e)

pub ends_some : (s : List ℕ) → Ends s → 0 < length s
ends_some [] e = absurd (false≢true e)
ends_some (c ∷ cs) e = omega arith

-- a byte at the front that is no line feed is not the last
pub ends_tail : (c : ℕ) (cs : List ℕ) → Ends (c ∷ cs) → (c == 10) ≡ false → Ends cs
ends_tail c [] e other = absurd (true≢false (sym e ∙ other))
ends_tail c (d ∷ cs) e other = e

pub ends_drop : (n : ℕ) (s : List ℕ) → Ends s → n < length s → Ends (drop n s)
ends_drop zero s e h = e
ends_drop (suc n) [] e h = absurd (omega arith)
ends_drop (suc n) (c ∷ []) e h = absurd (omega arith)
ends_drop (suc n) (c ∷ d ∷ cs) e h = ends_drop n (d ∷ cs) e (omega arith)

-- a byte that is no line feed is followed by another
pub ends_next : (i : ℕ) (s : List ℕ) → Ends s → i < length s → (get_or s i 0 == 10) ≡ false → i + 1 < length s
ends_next i [] e h other = absurd (omega arith)
ends_next zero (c ∷ cs) e h other = omega (arith, ends_some cs (ends_tail c cs e other))
ends_next (suc i) (c ∷ []) e h other = absurd (omega arith)
ends_next (suc i) (c ∷ d ∷ cs) e h other = omega (arith, ends_next i (d ∷ cs) e (omega arith) other)

-- a run that a line feed stops is the same with more text
pub run_more : (p : ℕ → Bool) (s r : List ℕ) → p 10 ≡ false → Ends s → (prefix_len p (s ++ r) ≡ prefix_len p s) × (prefix_len p s < length s)
run_more p [] r stop e = absurd (false≢true e)
run_more p (c ∷ []) r stop e =
    let here : p c ≡ false = ap p (eqb-true c 10 e) ∙ stop in
    rw here (refl, omega arith)
run_more p (c ∷ d ∷ cs) r stop e =
    let ih = run_more p (d ∷ cs) r stop e in
    elim (cases_Bool (p c)) [
      | inl more ↦ rw more (ap (λ n. 1 + n) ih.0, omega (arith, ih.1))
      | inr other ↦ rw other (refl, omega arith)
    ]
