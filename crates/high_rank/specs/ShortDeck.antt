-- The high order of the deck of 36, six to ace: a flush ranks above a full house, and an ace begins
-- A6789, the lowest straight, topped by the nine.
use Rattle.std.specs.Prelude.{◌&&◌, ◌==◌, ℕ, ◌-◌, Bool, List, [], ◌∷◌, Option, Some}
use Rattle.card_set.specs.declared.card.Card.{Card}
use Rattle.card_set.specs.Ranks.{high_ace, is_one_suit}
use Rattle.card_set.specs.Classes.{has_four_of_a_kind, has_full_house, has_three_of_a_kind, has_two_pair, has_one_pair, has_no_pair, classes_above, IsBelow}
use Rattle.hand_order.specs.Digits.{class_above}
use Rattle.hand_order.specs.declared.straights.LowStraight.TheVariants as straights
use Rattle.hand_order.specs.Straights.{is_straight, deciding_ranks}

-- the classes from the best: straight flush, four of a kind, flush, full house, straight, three of
-- a kind, two pair, pair, high card
unfoldable pub short_class : List Card → ℕ
short_class cards =
    classes_above (
    (is_straight straights.NineHigh cards && is_one_suit cards)
    ∷ has_four_of_a_kind high_ace cards
    ∷ is_one_suit cards
    ∷ has_full_house high_ace cards
    ∷ is_straight straights.NineHigh cards
    ∷ has_three_of_a_kind high_ace cards
    ∷ has_two_pair high_ace cards
    ∷ has_one_pair high_ace cards
    ∷ has_no_pair high_ace cards
    ∷ []
    )

-- a hand of five cards is weaker than another
abbrev pub IsWeaker : List Card → List Card → Type 0
IsWeaker a b = IsBelow short_class (deciding_ranks straights.NineHigh) a b

-- the points of its score
abbrev pub points : List Card → Option ℕ
points cards = Some (class_above (8 - short_class cards) (deciding_ranks straights.NineHigh cards))

-- the classes by how many ranks occur four times, three times and twice, and whether there is a
-- straight and a flush
abbrev pub short_table : ℕ → ℕ → ℕ → Bool → Bool → List Bool
short_table fours threes pairs straight flush =
    (straight && flush) ∷ (fours == 1) ∷ flush ∷ (threes == 1 && pairs == 1) ∷ straight
    ∷ (threes == 1 && pairs == 0) ∷ (pairs == 2) ∷ (pairs == 1 && threes == 0)
    ∷ (fours == 0 && threes == 0 && pairs == 0) ∷ []
