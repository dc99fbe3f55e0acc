-- The order of the short deck is lawful.
-- This is a proof: no reader needs it.
use Rattle.std.proofs.Common.{◌≡◌, ℕ, ◌+◌, ◌-◌, ◌*◌, ◌<◌, Bool, true, false, List, [], ◌∷◌, ◌↔◌, refl, arith}
use Rattle.card_set.specs.declared.card.Card.{Card}
use Rattle.hand_order.specs.declared.straights.LowStraight.TheVariants as straights
use Rattle.hand_order.specs.Choices.{AreHeld}
use Rattle.hand_order.specs.Digits.{class_above}
use Rattle.hand_order.specs.Order.{IsLawful}
use Rattle.hand_order.specs.Straights.{deciding_ranks}
use Rattle.hand_order.proofs.HighLaw.{TableSays, ranked_by}
use Rattle.hand_order.proofs.Ranked.{IsRanked, ranked_law}
use Rattle.hand_order.proofs.Shapes.{by_shape}
use Rattle.high_rank.specs.High.{IsHand}
use Rattle.high_rank.specs.ShortDeck.{short_class, short_table, IsWeaker, points}
use Rattle.hand_order.proofs.Lawful.{lawful_by_numbers}

-- in each class, the number of cards minus the number of ranks that decide
abbrev pub short_missing : List ℕ
short_missing = 4 ∷ 3 ∷ 0 ∷ 3 ∷ 4 ∷ 2 ∷ 2 ∷ 1 ∷ 0 ∷ []

-- each class of the short deck has the ranks that decide in it
short_says : (four three two one : ℕ) (straight flush : Bool)
    → 4 * four + 3 * three + 2 * two + one ≡ 5 → (straight ≡ true → four + three + two + one ≡ 5)
    → (flush ≡ true → four + three + two + one ≡ 5)
    → TableSays short_table short_missing four three two one straight flush
short_says four three two one =
    by_shape (TableSays short_table short_missing) (omega arith, refl) (omega arith, refl)
    (omega arith, refl) (omega arith, refl) (omega arith, refl) singles four three two one
  where
    singles : (straight flush : Bool) → TableSays short_table short_missing 0 0 0 5 straight flush
    singles true true = (omega arith, refl)
    singles true false = (omega arith, refl)
    singles false true = (omega arith, refl)
    singles false false = (omega arith, refl)

-- five cards are ranked by their class in the short deck
pub short_ranked : (cards : List Card) → AreHeld 5 cards
    → IsRanked short_class (deciding_ranks straights.NineHigh) short_missing 8 5 cards
unfolding short_class
short_ranked cards held =
    ranked_by short_table short_missing short_says straights.NineHigh short_class cards held refl

-- the points of five cards are fewer if and only if they are weaker
short_ordered : (a b : List Card) → AreHeld 5 a → AreHeld 5 b
    → (class_above (8 - short_class a) (deciding_ranks straights.NineHigh a)
    < class_above (8 - short_class b) (deciding_ranks straights.NineHigh b))
    ↔ IsWeaker a b
short_ordered a b held_a held_b =
    ranked_law short_class (deciding_ranks straights.NineHigh) short_missing 8 5 a b
    (short_ranked a held_a) (short_ranked b held_b)

-- the order of the short deck is lawful
pub lawful_short_deck : IsLawful (AreHeld 5) IsHand IsWeaker points
lawful_short_deck =
    lawful_by_numbers (AreHeld 5) IsWeaker
    (λ cards. class_above (8 - short_class cards) (deciding_ranks straights.NineHigh cards))
    short_ordered
