-- Lemmas on numbers with a sign: how they compare, and what the difference of two numbers is.
use Rattle.std.proofs.Common.{ap, arith, false, neg_ℤ, negsuc, not, pos, refl, suc, true, zero, ℕ, ℤ, ◌-◌, ◌<◌, ◌≡◌, ◌≤◌, ◌≤ℤ◌, ◌-ℤ◌}
use Rattle.std.proofs.lemmas.Bool.{le-ltb, lt-ltb}
use Rattle.std.proofs.lemmas.Bool.Decides.{Decides-int_eq}
use Rattle.std.specs.Ordering.{int_eq}

pub signed : (a b : ℕ) → a ≤ b → pos a ≤ℤ pos b
signed a b le = grind (arith, le)

pub unsigned : (a b : ℕ) → pos a ≤ℤ pos b → a ≤ b
unsigned a b le = grind (arith, le)

pub negative_below : (year : ℕ) → neg_ℤ (pos 9999) ≤ℤ pos year
negative_below year = grind arith

pub difference_below : (finish stack : ℕ) → finish < stack → pos 0 -ℤ pos (stack - finish) ≡ pos finish -ℤ pos stack
difference_below finish zero less = absurd (omega (arith, less))
difference_below finish (suc most) less =
    let rest : suc most - finish ≡ suc (most - finish) = omega (arith, less) in
    let same : suc (most - finish) - 1 ≡ suc most - suc finish = omega (arith, less) in
    rw (rest, lt-ltb 0 (suc (most - finish)) (omega arith), lt-ltb finish (suc most) less) (ap negsuc same)

pub difference_above : (finish stack : ℕ) → stack ≤ finish → pos (finish - stack) ≡ pos finish -ℤ pos stack
difference_above finish zero more = ap pos (omega arith)
difference_above finish (suc most) more = rw (le-ltb finish (suc most) more) refl

pub same_whole : (a b : ℕ) → a ≡ b → int_eq (pos a) (pos b) ≡ true
same_whole a b same = (Decides-int_eq (pos a) (pos b)).1 (ap pos same)

-- a number is itself
pub not_different_whole : (a b : ℕ) → a ≡ b → not (int_eq (pos a) (pos b)) ≡ false
not_different_whole a b same = ap not ((Decides-int_eq (pos a) (pos b)).1 (ap pos same))

-- a number is itself
pub not_different : (a b : ℤ) → a ≡ b → not (int_eq a b) ≡ false
not_different a b same = ap not ((Decides-int_eq a b).1 same)
