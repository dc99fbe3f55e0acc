-- The choices of cards that a holding allows.
use Rattle.std.specs.Prelude.{◌≡◌, ◌≤◌, ◌+◌, ℕ, zero, suc, ◌⊎◌, List, [], ◌∷◌, ◌++◌, length, map, Option}
use Rattle.std.specs.List.{flat_map}
use Rattle.card_set.specs.declared.card.Card.{Card}
use Rattle.card_set.specs.CardSet.{AreSameCards}
use Rattle.card_set.specs.Different.{AllDifferent}
use Rattle.card_set.specs.declared.pick.Pick.{Pick}
use Rattle.card_set.specs.declared.pick.Pick.TheVariants as picks

-- all choices of this number of the cards
unfoldable pub choices : ℕ → List Card → List (List Card)
choices zero cards = [] ∷ []
choices (suc n) [] = []
choices (suc n) (card ∷ rest) =
    map (λ chosen. card ∷ chosen) (choices n rest) ++ choices (suc n) rest

-- all choices of a number of the first cards, each with all choices of a number of the second ones
abbrev pub choices_of_both : ℕ → List Card → ℕ → List Card → List (List Card)
choices_of_both n first m second =
    flat_map (λ chosen. map (λ others. chosen ++ others) (choices m second)) (choices n first)

-- the choices that a pick allows: any five cards; two of the hole and three of the board; all hole
-- cards
abbrev pub allowed : Pick → List Card → List Card → List (List Card)
allowed picks.AnyFive hole board = choices 5 (hole ++ board)
allowed picks.TwoAndThree hole board = choices_of_both 2 hole 3 board
allowed picks.AllHeld hole board = hole ∷ []

-- the pick can use these cards in an order whose hands have this many cards
abbrev pub CanPick : ℕ → Pick → List Card → List Card → Type 0
CanPick held picks.AnyFive hole board =
    (held ≡ 5) × (5 ≤ length hole + length board) × (length hole + length board ≤ 7)
CanPick held picks.TwoAndThree hole board = (held ≡ 5) × (2 ≤ length hole) × (3 ≤ length board)
CanPick held picks.AllHeld hole board = length hole ≡ held

-- this number of cards can be chosen from: five to seven if a hand has five, otherwise as many as a
-- hand has
abbrev pub CanChoose : ℕ → ℕ → Type 0
CanChoose held count = ((held ≡ 5) × (5 ≤ count) × (count ≤ 7)) ⊎ (count ≡ held)

-- the choice is one of these
abbrev pub IsAmong : List Card → List (List Card) → Type 0
IsAmong choice [] = ⊥
IsAmong choice (option ∷ others) = (choice ≡ option) ⊎ IsAmong choice others

-- this number of cards, all different
abbrev pub AreHeld : ℕ → List Card → Type 0
AreHeld held cards = (length cards ≡ held) × AllDifferent cards

-- these cards and three of the board are this many, and all are different
abbrev pub CanJoin : ℕ → List Card → List Card → Type 0
CanJoin held cards board = (length cards + 3 ≡ held) × AllDifferent (cards ++ board)

-- points that do not depend on the order of the cards
abbrev pub AreAlike : (List Card → Option ℕ) → ℕ → Type 0
AreAlike points held =
    (a b : List Card) → AreHeld held a → AreHeld held b → AreSameCards a b → points a ≡ points b
