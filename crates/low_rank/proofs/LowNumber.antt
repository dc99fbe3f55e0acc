-- What is read from low cards makes their number.
use Rattle.std.proofs.Common.{◌≡◌, ℕ, ◌^◌, ◌<◌, ◌≤◌, List, length, ◌↔◌, sym, ◌∙◌, ap, subst, arith}
use Rattle.card_set.specs.declared.card.Card.{Card}
use Rattle.card_set.specs.Classes.{classes_above}
use Rattle.card_set.specs.Different.{AllDifferent}
use Rattle.card_set.specs.Ranks.{low_ace, ranks_occurring, ranks_of}
use Rattle.card_set.specs.UpCards.{AreUpCards, low_class, IsWeakerLow}
use Rattle.hand_order.specs.Digits.{class_above}
use Rattle.hand_order.proofs.Ranked.{ranked_below}
use Rattle.low_rank.specs.Low.{low_points, low_table}
use Rattle.low_rank.specs.LowLaw.{low_missing, low_ranked, low_ordered}

-- the class, from what is read
pub class_seen : (cards : List Card) (fours threes pairs : ℕ) → fours ≡ ranks_occurring low_ace cards 4 → threes ≡ ranks_occurring low_ace cards 3 → pairs ≡ ranks_occurring low_ace cards 2 → classes_above (low_table fours threes pairs) ≡ low_class cards
unfolding low_class
class_seen cards fours threes pairs is_fours is_threes is_pairs =
    ap (λ (k : ℕ). classes_above (low_table k threes pairs)) is_fours
    ∙ ap (λ (k : ℕ). classes_above (low_table (ranks_occurring low_ace cards 4) k pairs)) is_threes
    ∙ ap (λ (k : ℕ). classes_above (low_table (ranks_occurring low_ace cards 4) (ranks_occurring low_ace cards 3) k)) is_pairs

-- is one of the six
pub class_within : (cards : List Card) (fours threes pairs : ℕ) → length cards ≤ 5 → AllDifferent cards → fours ≡ ranks_occurring low_ace cards 4 → threes ≡ ranks_occurring low_ace cards 3 → pairs ≡ ranks_occurring low_ace cards 2 → classes_above (low_table fours threes pairs) ≤ 5
class_within cards fours threes pairs few different is_fours is_threes is_pairs =
    omega (arith, class_seen cards fours threes pairs is_fours is_threes is_pairs, (low_ranked cards few different).within)

-- the class and the list that are read make a number below the seventh place
pub above_seen : (cards : List Card) (class : ℕ) (list : List ℕ) → class ≡ low_class cards → list ≡ ranks_of low_ace cards → class_above class list ≡ class_above (low_class cards) (ranks_of low_ace cards)
above_seen cards class list is_class is_list =
    ap (λ (l : List ℕ). class_above class l) is_list ∙ ap (λ (k : ℕ). class_above k (ranks_of low_ace cards)) is_class

pub above_below : (cards : List Card) (class : ℕ) (list : List ℕ) → length cards ≤ 5 → AllDifferent cards → class ≡ low_class cards → list ≡ ranks_of low_ace cards → class_above class list < 16 ^ 6
above_below cards class list few different is_class is_list =
    omega (arith, above_seen cards class list is_class is_list, ranked_below low_class (ranks_of low_ace) low_missing 5 (length cards) cards (low_ranked cards few different) (omega arith))

-- a number of these up-cards is less than that of others if and only if they are weaker
pub up_ordered_at : (cards other : List Card) (value : ℕ) → AreUpCards cards → AreUpCards other → length other ≡ length cards → value ≡ low_points cards → (low_points other < value) ↔ IsWeakerLow other cards
up_ordered_at cards other value up up_other same is =
    subst (λ (n : ℕ). (low_points other < n) ↔ IsWeakerLow other cards) (sym is) (low_ordered other cards (omega (arith, up_other.few)) same up_other.different up.different)
