-- The classes of the high orders, in which a flush ranks below a full house or above it.
use Rattle.std.specs.Prelude.{ℕ, ◌-◌, ◌==◌, ◌&&◌, Bool, List, [], ◌∷◌, if◌then◌else◌}
use Rattle.card_set.specs.declared.card.Card.{Card}
use Rattle.card_set.specs.Classes.{classes_above}
use Rattle.card_set.specs.Ranks.{high_ace, ranks_occurring, is_one_suit}
use Rattle.hand_order.specs.Digits.{class_above}
use Rattle.hand_order.specs.Straights.{is_straight, deciding_ranks}
use Rattle.hand_order.specs.Tables.{high_table}
use Rattle.hand_order.specs.declared.ladder.FlushRank.{FlushRank}
use Rattle.hand_order.specs.declared.ladder.FlushRank.TheVariants as flushes
use Rattle.hand_order.specs.declared.straights.LowStraight.{LowStraight}

-- the class of a flush
abbrev pub flush_class : FlushRank → ℕ
flush_class flushes.BelowFullHouse = 5
flush_class flushes.AboveFullHouse = 6

-- the class of a hand without straight and flush, if a full house would be class 6
abbrev pub flush_ranked : FlushRank → ℕ → ℕ
flush_ranked flushes.BelowFullHouse class = class
flush_ranked flushes.AboveFullHouse class = if class == 6 then 5 else class

-- the classes by how many ranks occur four times, three times and twice, and whether there is a
-- straight and a flush
abbrev pub ladder_table : FlushRank → ℕ → ℕ → ℕ → Bool → Bool → List Bool
ladder_table flushes.BelowFullHouse fours threes pairs straight flush =
    high_table fours threes pairs straight flush
ladder_table flushes.AboveFullHouse fours threes pairs straight flush =
    (straight && flush) ∷ (fours == 1) ∷ flush ∷ (threes == 1 && pairs == 1) ∷ straight
    ∷ (threes == 1 && pairs == 0) ∷ (pairs == 2) ∷ (pairs == 1 && threes == 0)
    ∷ (fours == 0 && threes == 0 && pairs == 0) ∷ []

-- the points of a hand, given the straight that an ace begins, if any
abbrev pub ladder_points : FlushRank → LowStraight → List Card → ℕ
ladder_points flush low cards =
    class_above
    (8
    - classes_above
    (ladder_table flush (ranks_occurring high_ace cards 4)
    (ranks_occurring high_ace cards 3) (ranks_occurring high_ace cards 2)
    (is_straight low cards) (is_one_suit cards)))
    (deciding_ranks low cards)
