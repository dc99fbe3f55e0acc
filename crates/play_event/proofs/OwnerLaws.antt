-- The test for one owner holds only for one owner.
use Rattle.std.proofs.Common.{◌≡◌, ℕ, true, Option, Some, None, refl, ap}
use Rattle.std.proofs.lemmas.Bool.{eqb-true, eq-eqb}
use Rattle.card_set.proofs.Tests.{false_true}
use Rattle.play_event.specs.Places.{is_same_owner}

pub is_same_owner-true : (a b : Option ℕ) → is_same_owner a b ≡ true → a ≡ b
is_same_owner-true (Some seat) (Some other) same = ap Some (eqb-true seat other same)
is_same_owner-true None None same = refl
is_same_owner-true (Some seat) None same = false_true same
is_same_owner-true None (Some other) same = false_true same

pub is_same_owner-self : (a : Option ℕ) → is_same_owner a a ≡ true
is_same_owner-self (Some seat) = eq-eqb seat seat refl
is_same_owner-self None = refl
