-- Numbers of the same number of up-cards compare as the up-cards do.
use Rattle.std.proofs.Common.{◌≡◌, ℕ, ◌-◌, ◌<◌, List, [], ◌∷◌, length, ◌↔◌, refl, sym, ◌∙◌, ap, subst, arith}
use Rattle.card_set.specs.declared.card.Card.{Card}
use Rattle.card_set.specs.Classes.{classes_above}
use Rattle.card_set.specs.Ranks.{high_ace, ranks_occurring, ranks_of}
use Rattle.card_set.specs.UpCards.{AreUpCards, up_high_class, IsWeakerUpHigh}
use Rattle.card_set.proofs.Counted.{IsHeight-high_ace}
use Rattle.hand_order.specs.Digits.{class_above}
use Rattle.hand_order.proofs.RankDigits.{AreDigits-ranks_of}
use Rattle.hand_order.proofs.Ranked.{IsRanked, PlainSays, ranked_plain, ranked_law}
use Rattle.hand_order.proofs.Shapes.{by_counts}
use Rattle.high_rank.specs.UpHigh.{up_high_points, up_high_table}

-- in each class, the number of cards minus the number of ranks that decide
abbrev pub up_missing : List ℕ
up_missing = 3 ∷ 2 ∷ 2 ∷ 1 ∷ 0 ∷ []

up_says : (four three two one : ℕ) → PlainSays up_high_table up_missing 4 4 four three two one
up_says four three two one few =
    by_counts (PlainSays up_high_table up_missing 4 4)
    (λ one few. (omega arith, refl)) (λ one few. absurd (omega arith)) (λ one few. (omega arith, refl)) (λ one few. (omega arith, refl)) (λ one few. (omega arith, refl)) (λ one few. (omega arith, refl))
    four three two one (omega arith) few

up_ranked : (cards : List Card) → AreUpCards cards → IsRanked up_high_class (ranks_of high_ace) up_missing 4 (length cards) cards
unfolding up_high_class
up_ranked cards up = ranked_plain up_high_table up_missing 4 4 up_says high_ace IsHeight-high_ace (AreDigits-ranks_of high_ace) up_high_class cards (omega arith) up.few up.different refl

pub up_ordered : (a b : List Card) → AreUpCards a → AreUpCards b → length a ≡ length b → (up_high_points a < up_high_points b) ↔ IsWeakerUpHigh a b
up_ordered a b up_a up_b same =
    ranked_law up_high_class (ranks_of high_ace) up_missing 4 (length b) a b
    (subst (λ (n : ℕ). IsRanked up_high_class (ranks_of high_ace) up_missing 4 n a) same (up_ranked a up_a)) (up_ranked b up_b)

-- a number of these up-cards is less than that of others if and only if they are weaker
pub up_ordered_at : (cards other : List Card) (value : ℕ) → AreUpCards cards → AreUpCards other → length other ≡ length cards → value ≡ up_high_points cards → (up_high_points other < value) ↔ IsWeakerUpHigh other cards
up_ordered_at cards other value up up_other same is = subst (λ (n : ℕ). (up_high_points other < n) ↔ IsWeakerUpHigh other cards) (sym is) (up_ordered other cards up_other up same)

-- a class and a list that are read from up-cards make their number
pub up_number_is : (cards : List Card) (fours threes pairs class : ℕ) (list : List ℕ) → fours ≡ ranks_occurring high_ace cards 4 → threes ≡ ranks_occurring high_ace cards 3 → pairs ≡ ranks_occurring high_ace cards 2 → class ≡ 4 - classes_above (up_high_table fours threes pairs) → list ≡ ranks_of high_ace cards → class_above class list ≡ up_high_points cards
unfolding up_high_class
up_number_is cards fours threes pairs class list is_fours is_threes is_pairs is_class is_list =
    ap (λ (l : List ℕ). class_above class l) is_list
    ∙ ap (λ (k : ℕ). class_above k (ranks_of high_ace cards)) (is_class
    ∙ ap (λ (k : ℕ). 4 - classes_above (up_high_table k threes pairs)) is_fours
    ∙ ap (λ (k : ℕ). 4 - classes_above (up_high_table (ranks_occurring high_ace cards 4) k pairs)) is_threes
    ∙ ap (λ (k : ℕ). 4 - classes_above (up_high_table (ranks_occurring high_ace cards 4) (ranks_occurring high_ace cards 3) k)) is_pairs)
