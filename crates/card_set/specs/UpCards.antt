-- The orders of one to four up-cards: straights and flushes do not count.
use Rattle.std.specs.Prelude.{◌≤◌, ℕ, List, [], ◌∷◌, length}
use Rattle.card_set.specs.declared.card.Card.{Card}
use Rattle.card_set.specs.Different.{AllDifferent}
use Rattle.card_set.specs.Ranks.{high_ace, low_ace, ranks_of}
use Rattle.card_set.specs.Classes.{has_four_of_a_kind, has_full_house, has_three_of_a_kind, has_two_pair, has_one_pair, has_no_pair, classes_above, IsBelow, IsBelowLow}

-- one to four different cards
pub record AreUpCards (cards : List Card) : Type 0 where
  pub some : 1 ≤ length cards
  pub few : length cards ≤ 4
  pub different : AllDifferent cards

-- the classes of high up-cards, best first: four of a kind, three of a kind, two pair, pair, high
-- card
unfoldable pub up_high_class : List Card → ℕ
up_high_class cards =
    classes_above
    (has_four_of_a_kind high_ace cards ∷ has_three_of_a_kind high_ace cards
    ∷ has_two_pair high_ace cards ∷ has_one_pair high_ace cards
    ∷ has_no_pair high_ace cards ∷ [])

-- high up-cards are weaker: the ace is high, and higher ranks are better
abbrev pub IsWeakerUpHigh : List Card → List Card → Type 0
IsWeakerUpHigh a b = IsBelow up_high_class (ranks_of high_ace) a b

-- the classes of low cards, best first: no pair, pair, two pair, three of a kind, full house, four
-- of a kind
unfoldable pub low_class : List Card → ℕ
low_class cards =
    classes_above
    (has_no_pair low_ace cards ∷ has_one_pair low_ace cards ∷ has_two_pair low_ace cards
    ∷ has_three_of_a_kind low_ace cards ∷ has_full_house low_ace cards
    ∷ has_four_of_a_kind low_ace cards ∷ [])

-- low cards (up-cards and whole razz hands) are weaker: the ace is low, and lower ranks are better
abbrev pub IsWeakerLow : List Card → List Card → Type 0
IsWeakerLow a b = IsBelowLow low_class (ranks_of low_ace) a b
