-- What every order of hands satisfies: exactly its hands have points, and the points compare as the
-- hands do.
use Rattle.std.specs.Prelude.{◌≡◌, ◌<◌, ◌⊎◌, ℕ, List, Option, Some, IsSome, ◌↔◌}
use Rattle.card_set.specs.declared.card.Card.{Card}

-- neither hand is weaker
abbrev pub IsEven : (List Card → List Card → Type 0) → List Card → List Card → Type 0
IsEven is_weaker a b = ¬ (is_weaker a b) × ¬ (is_weaker b a)

-- for the cards that the order applies to, such as five different ones: only hands have points, a
-- weaker hand has fewer, even hands have the same, and every two hands compare
pub record IsLawful (looks_at : List Card → Type 0) (is_hand : List Card → Type 0)
    (is_weaker : List Card → List Card → Type 0) (points : List Card → Option ℕ) : Type 0 where
  pub scored : (cards : List Card) → looks_at cards → IsSome (points cards) ↔ is_hand cards
  pub ordered : (a b : List Card) (low high : ℕ) → looks_at a → looks_at b → points a ≡ Some low
      → points b ≡ Some high → (low < high) ↔ is_weaker a b
  pub even : (a b : List Card) (one other : ℕ) → looks_at a → looks_at b → points a ≡ Some one
      → points b ≡ Some other → (one ≡ other) ↔ IsEven is_weaker a b
  pub compared : (a b : List Card) → looks_at a → looks_at b → is_hand a → is_hand b
      → is_weaker a b ⊎ (is_weaker b a ⊎ IsEven is_weaker a b)
