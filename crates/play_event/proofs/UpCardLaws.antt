-- The tests by which up-cards decide who acts first agree with the orders of up-cards.
use Rattle.std.proofs.Common.{◌≡◌, ℕ, ◌<◌, ◌==◌, true, ◌&&◌, ◌||◌, nat_lt, inl, inr, ◌⊎◌, List, [], ◌∷◌}
use Rattle.std.proofs.lemmas.Bool.{or_cases, or_left, or_right, and_parts, and_from, ltb-true, lt-ltb, eqb-true, eq-eqb}
use Rattle.card_set.proofs.Tests.{false_true}
use Rattle.card_set.specs.declared.card.Card.{Card}
use Rattle.card_set.specs.Classes.{IsLower}
use Rattle.card_set.specs.Ranks.{high_ace, low_ace, ranks_of}
use Rattle.card_set.specs.UpCards.{up_high_class, low_class, IsWeakerUpHigh, IsWeakerLow}
use Rattle.play_event.specs.Openers.{is_lower, is_weaker_up_high, is_weaker_low}

lower_so : (xs ys : List ℕ) → is_lower xs ys ≡ true → IsLower xs ys
lower_so [] ys is = false_true is
lower_so (x ∷ xs) [] is = false_true is
lower_so (x ∷ xs) (y ∷ ys) is = elim (or_cases (nat_lt x y) ((x == y) && is_lower xs ys) is) [
  | inl less ↦ inl (ltb-true x y less)
  | inr later ↦ let parts = and_parts (x == y) (is_lower xs ys) later in inr (eqb-true x y parts.0, lower_so xs ys parts.1)
]

lower_is : (xs ys : List ℕ) → IsLower xs ys → is_lower xs ys ≡ true
lower_is [] ys is = absurd is
lower_is (x ∷ xs) [] is = absurd is
lower_is (x ∷ xs) (y ∷ ys) (inl less) = or_left (nat_lt x y) ((x == y) && is_lower xs ys) (lt-ltb x y less)
lower_is (x ∷ xs) (y ∷ ys) (inr later) =
    or_right (nat_lt x y) ((x == y) && is_lower xs ys) (and_from (x == y) (is_lower xs ys) (eq-eqb x y later.0) (lower_is xs ys later.1))

-- by class and then by ranks
weaker_so : (a b : ℕ) (xs ys : List ℕ) → (nat_lt b a || ((a == b) && is_lower xs ys)) ≡ true → (b < a) ⊎ ((a ≡ b) × IsLower xs ys)
weaker_so a b xs ys is = elim (or_cases (nat_lt b a) ((a == b) && is_lower xs ys) is) [
  | inl class ↦ inl (ltb-true b a class)
  | inr ranks ↦ let parts = and_parts (a == b) (is_lower xs ys) ranks in inr (eqb-true a b parts.0, lower_so xs ys parts.1)
]

weaker_is : (a b : ℕ) (xs ys : List ℕ) → (b < a) ⊎ ((a ≡ b) × IsLower xs ys) → (nat_lt b a || ((a == b) && is_lower xs ys)) ≡ true
weaker_is a b xs ys (inl class) = or_left (nat_lt b a) ((a == b) && is_lower xs ys) (lt-ltb b a class)
weaker_is a b xs ys (inr ranks) =
    or_right (nat_lt b a) ((a == b) && is_lower xs ys) (and_from (a == b) (is_lower xs ys) (eq-eqb a b ranks.0) (lower_is xs ys ranks.1))

pub high_agrees : (a b : List Card) → (is_weaker_up_high a b ≡ true → IsWeakerUpHigh a b) × (IsWeakerUpHigh a b → is_weaker_up_high a b ≡ true)
high_agrees a b =
    (weaker_so (up_high_class a) (up_high_class b) (ranks_of high_ace a) (ranks_of high_ace b), weaker_is (up_high_class a) (up_high_class b) (ranks_of high_ace a) (ranks_of high_ace b))

pub low_agrees : (a b : List Card) → (is_weaker_low a b ≡ true → IsWeakerLow a b) × (IsWeakerLow a b → is_weaker_low a b ≡ true)
low_agrees a b =
    (weaker_so (low_class a) (low_class b) (ranks_of low_ace b) (ranks_of low_ace a), weaker_is (low_class a) (low_class b) (ranks_of low_ace b) (ranks_of low_ace a))
