-- A best choice is a hand of the order that is weaker than no other choice.
use Rattle.std.specs.Prelude.{◌≡◌, ◌<◌, ℕ, ◌⊎◌, List, Option, Some, None}
use Rattle.card_set.specs.declared.card.Card.{Card}
use Rattle.hand_order.specs.Choices.{IsAmong}

-- no choice is a hand of the order
abbrev pub HasNoHand : (List Card → Type 0) → List (List Card) → Type 0
HasNoHand is_hand options = (choice : List Card) → IsAmong choice options → ¬ (is_hand choice)

-- a choice that is a hand of the order and is weaker than no other choice
pub record IsBest (is_hand : List Card → Type 0) (is_weaker : List Card → List Card → Type 0)
    (options : List (List Card)) (best : List Card) : Type 0 where
  pub among : IsAmong best options
  pub hand : is_hand best
  pub unbeaten : (other : List Card) → IsAmong other options → is_hand other
      → ¬ (is_weaker best other)

-- these points are those of a best choice
pub record IsPointsOfBest (is_hand : List Card → Type 0)
    (is_weaker : List Card → List Card → Type 0) (points : List Card → Option ℕ)
    (options : List (List Card)) (most : ℕ) : Type 0 where
  pub best : List Card
  pub is_best : IsBest is_hand is_weaker options best
  pub pointed : points best ≡ Some most

-- one holding beats another: it has a best choice, and the other has no hand, or has a best choice
-- that is weaker
pub record Beats (is_hand : List Card → Type 0) (is_weaker : List Card → List Card → Type 0)
    (options others : List (List Card)) : Type 0 where
  pub best : List Card
  pub is_best : IsBest is_hand is_weaker options best
  pub over :
      HasNoHand is_hand others
      ⊎ ((other : List Card) × IsBest is_hand is_weaker others other × is_weaker other best)

-- the points of a holding: none if no choice is a hand, otherwise those of a best choice
abbrev pub IsPointsOfHolding : (List Card → Type 0) → (List Card → List Card → Type 0)
    → (List Card → Option ℕ) → List (List Card) → Option ℕ → Type 0
IsPointsOfHolding is_hand is_weaker points options None = HasNoHand is_hand options
IsPointsOfHolding is_hand is_weaker points options (Some most) =
    IsPointsOfBest is_hand is_weaker points options most

-- fewer points, where no points are fewer than any
abbrev pub IsLess : Option ℕ → Option ℕ → Type 0
IsLess None None = ⊥
IsLess None (Some y) = Unit {0}
IsLess (Some x) None = ⊥
IsLess (Some x) (Some y) = x < y
