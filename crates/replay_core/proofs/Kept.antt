-- A hand with the same parts is the same hand: that its parts fit has only one proof.
use Rattle.std.proofs.Common.{◌≡◌, ℕ, ap, subst}
use Rattle.std.proofs.Props.{props}

-- that two numbers are equal has only one proof
pub one_number : (a b : ℕ) (p q : a ≡ b) → p ≡ q
one_number = hlevel props

-- what is made of a part, of a proof that it fits
pub same_whole : {B H : Type 0} (P : B → Type 0) (make : (b : B) → P b → H) → ((b : B) (p q : P b) → p ≡ q) → (b old : B) (p : P b) (q : P old) → b ≡ old → make b p ≡ make old q
same_whole {B = B} P make one b old p q same = subst (λ (x : B). (r : P x) → make b p ≡ make x r) same (λ r. ap (make b) (one b p r)) q
