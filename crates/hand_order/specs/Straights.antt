-- Straights and flushes, and the table of classes of the high orders.
use Rattle.std.specs.Prelude.{◌==◌, ◌&&◌, ◌||◌, ℕ, ◌+◌, ◌-◌, Bool, false, List, [], ◌∷◌, if◌then◌else◌}
use Rattle.card_set.specs.declared.card.Card.{Card}
use Rattle.card_set.specs.Ranks.{high_ace, ranks_of, is_one_suit}
use Rattle.card_set.specs.Classes.{has_four_of_a_kind, has_full_house, has_three_of_a_kind, has_two_pair, has_one_pair, has_no_pair, classes_above, IsBelow}
use Rattle.hand_order.specs.Digits.{class_above}
use Rattle.hand_order.specs.declared.straights.LowStraight.{LowStraight}
use Rattle.hand_order.specs.declared.straights.LowStraight.TheVariants as straights

-- five heights, each one above the next
abbrev pub is_run : List ℕ → Bool
is_run (a ∷ b ∷ c ∷ d ∷ e ∷ []) = a == b + 1 && b == c + 1 && c == d + 1 && d == e + 1
is_run _ = false

-- the ranks after the ace in the straight that it begins: 5432, 9876 or none
abbrev pub is_after_ace : LowStraight → ℕ → ℕ → ℕ → ℕ → Bool
is_after_ace straights.FiveHigh b c d e = b == 5 && c == 4 && d == 3 && e == 2
is_after_ace straights.NineHigh b c d e = b == 9 && c == 8 && d == 7 && e == 6
is_after_ace straights.Nothing b c d e = false

-- the straight that an ace begins
abbrev pub is_low_straight : LowStraight → List ℕ → Bool
is_low_straight low (a ∷ b ∷ c ∷ d ∷ e ∷ []) = a == 14 && is_after_ace low b c d e
is_low_straight low _ = false

-- five different ranks of consecutive heights, or the straight that an ace begins
abbrev pub is_straight : LowStraight → List Card → Bool
is_straight low cards =
    is_run (ranks_of high_ace cards) || is_low_straight low (ranks_of high_ace cards)

-- the top of a straight: its first rank, or the second if an ace begins it
abbrev pub straight_top : List ℕ → ℕ
straight_top (a ∷ b ∷ rest) = if a == b + 1 then a else b
straight_top _ = 0

-- the list that decides within a class: for a straight only its top, otherwise all ranks
unfoldable pub deciding_ranks : LowStraight → List Card → List ℕ
deciding_ranks low cards =
    if is_straight low cards
    then straight_top (ranks_of high_ace cards) ∷ []
    else ranks_of high_ace cards

-- the classes of the high order from the best: straight flush, four of a kind, full house, flush,
-- straight, three of a kind, two pair, pair, high card
unfoldable pub high_class : LowStraight → List Card → ℕ
high_class low cards =
    classes_above (
    (is_straight low cards && is_one_suit cards)
    ∷ has_four_of_a_kind high_ace cards
    ∷ has_full_house high_ace cards
    ∷ is_one_suit cards
    ∷ is_straight low cards
    ∷ has_three_of_a_kind high_ace cards
    ∷ has_two_pair high_ace cards
    ∷ has_one_pair high_ace cards
    ∷ has_no_pair high_ace cards
    ∷ []
    )

-- a hand is weaker in the high order, given the straight that an ace begins, if any
abbrev pub IsWeakerHigh : LowStraight → List Card → List Card → Type 0
IsWeakerHigh low a b = IsBelow (high_class low) (deciding_ranks low) a b

-- the points of a hand in the high order: a better class gives more, and within a class the ranks
-- that decide do
abbrev pub high_points : LowStraight → List Card → ℕ
high_points low cards = class_above (8 - high_class low cards) (deciding_ranks low cards)
