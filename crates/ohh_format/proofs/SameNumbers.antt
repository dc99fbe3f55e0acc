-- Numbers are equal as integers if and only if they are equal as natural numbers.
use Rattle.std.proofs.Common.{◌≡◌, ◌≢◌, ℕ, Bool, true, false, ℤ, pos, negsuc, refl, ap}
use Rattle.std.specs.Ordering.{int_eq}
use Rattle.std.proofs.lemmas.Bool.Decides.{Decides-int_eq}

magnitude : ℤ → ℕ
magnitude (pos n) = n
magnitude (negsuc n) = n

pub other_number : (a b : ℕ) → a ≢ b → int_eq (pos a) (pos b) ≡ false
unfolding magnitude
other_number a b other = by_test (int_eq (pos a) (pos b)) refl
  where
    by_test : (same : Bool) → int_eq (pos a) (pos b) ≡ same → same ≡ false
    by_test true is = absurd (other (ap magnitude ((Decides-int_eq (pos a) (pos b)).0 is)))
    by_test false is = refl
