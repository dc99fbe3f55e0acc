-- The greatest points among choices.
use Rattle.std.specs.Prelude.{ℕ, List, [], ◌∷◌, Option, Some, None, max}
use Rattle.card_set.specs.declared.card.Card.{Card}

-- the greater of two, where nothing is less than any number
abbrev pub better : Option ℕ → Option ℕ → Option ℕ
better None other = other
better (Some x) None = Some x
better (Some x) (Some y) = Some (max x y)

-- the greatest points of the choices, or none if no choice has points
unfoldable pub greatest : (List Card → Option ℕ) → List (List Card) → Option ℕ
greatest points [] = None
greatest points (choice ∷ others) = better (points choice) (greatest points others)
