-- The three low orders are lawful.
-- This is a proof: no reader needs it.
use Rattle.std.proofs.Common.{◌≡◌, ℕ, ◌-◌, ◌^◌, ◌<◌, ◌≤◌, Bool, true, List, [], ◌∷◌, length, Some, inl, inr, ◌↔◌, refl, sym, ◌∙◌, ap, subst, arith}
use Rattle.std.specs.List.{list_all}
use Rattle.std.specs.Prelude.{nat_le}
use Rattle.std.proofs.lemmas.Bool.{and_parts}
use Rattle.std.proofs.lemmas.Option.{cond_some}
use Rattle.card_set.specs.declared.card.Card.{Card}
use Rattle.card_set.specs.Classes.{classes_above, has_no_pair, has_one_pair, has_two_pair, has_three_of_a_kind, has_full_house, has_four_of_a_kind}
use Rattle.card_set.specs.Different.{AllDifferent}
use Rattle.card_set.specs.Ranks.{low_ace, ranks_of}
use Rattle.card_set.specs.UpCards.{low_class, IsWeakerLow}
use Rattle.card_set.proofs.Counted.{IsHeight-low_ace}
use Rattle.hand_order.specs.declared.straights.LowStraight.TheVariants as straights
use Rattle.hand_order.specs.Choices.{AreHeld}
use Rattle.hand_order.specs.Order.{IsLawful}
use Rattle.hand_order.specs.Straights.{high_points}
use Rattle.hand_order.proofs.HighLaw.{high_ordered, high_below}
use Rattle.hand_order.proofs.Lawful.{lawful_by_numbers, lawful_by_order}
use Rattle.hand_order.proofs.RankDigits.{AreDigits-ranks_of}
use Rattle.hand_order.proofs.Ranked.{IsRanked, PlainSays, ranked_plain, ranked_low_law}
use Rattle.hand_order.proofs.Shapes.{by_counts}
use Rattle.low_rank.specs.Low.{low_points, low_table}
use Rattle.low_rank.specs.Razz as razz
use Rattle.low_rank.specs.EightLow as eight
use Rattle.low_rank.specs.DeuceSeven as deuce
use Rattle.card_set.proofs.Options.{some_where}

-- in each class, the number of cards minus the number of ranks that decide
abbrev pub low_missing : List ℕ
low_missing = 0 ∷ 1 ∷ 2 ∷ 2 ∷ 3 ∷ 3 ∷ []

-- each class of low hands has the ranks that decide in it
low_says : (four three two one : ℕ) → PlainSays low_table low_missing 5 5 four three two one
low_says four three two one few =
    by_counts (PlainSays low_table low_missing 5 5)
    (λ one few. (omega arith, refl)) (λ one few. (omega arith, refl))
    (λ one few. (omega arith, refl)) (λ one few. (omega arith, refl))
    (λ one few. (omega arith, refl)) (λ one few. (omega arith, refl))
    four three two one (omega arith) few

-- cards are ranked by their low class
pub low_ranked : (cards : List Card) → length cards ≤ 5 → AllDifferent cards
    → IsRanked low_class (ranks_of low_ace) low_missing 5 (length cards) cards
unfolding low_class
low_ranked cards few different =
    ranked_plain low_table low_missing 5 5 low_says low_ace IsHeight-low_ace
    (AreDigits-ranks_of low_ace) low_class cards (omega arith) few different refl

-- points of the same number of cards are fewer if and only if the cards are weaker
pub low_ordered : (a b : List Card) → length a ≤ 5 → length a ≡ length b → AllDifferent a
    → AllDifferent b → (low_points a < low_points b) ↔ IsWeakerLow a b
low_ordered a b few same different_a different_b =
    ranked_low_law low_class (ranks_of low_ace) low_missing 5 (length b) a b (omega arith)
    (subst (λ (n : ℕ). IsRanked low_class (ranks_of low_ace) low_missing 5 n a) same
    (low_ranked a few different_a))
    (low_ranked b (omega arith) different_b)

-- the order of razz is lawful
pub lawful_razz : IsLawful (AreHeld 5) razz.IsHand razz.IsWeaker razz.points
lawful_razz =
    lawful_by_numbers (AreHeld 5) razz.IsWeaker low_points
    (λ a b held_a held_b.
    low_ordered a b (omega (arith, held_a.0)) (held_a.0 ∙ sym held_b.0) held_a.1
    held_b.1)

-- the order of deuce to seven is lawful: the weaker high hand is better
pub lawful_deuce_seven : IsLawful (AreHeld 5) deuce.IsHand deuce.IsWeaker deuce.points
lawful_deuce_seven =
    lawful_by_numbers (AreHeld 5) deuce.IsWeaker
    (λ cards. 16 ^ 6 - high_points straights.Nothing cards) (λ a b held_a held_b.
    let law = high_ordered straights.Nothing b a held_b held_a in
    let below_a = high_below straights.Nothing a held_a in
    let below_b = high_below straights.Nothing b held_b in
    (λ less. law.0 (omega arith), λ weaker. let greater = law.1 weaker in omega arith))

-- cards without a pair have the best class
pub best_class : (cards : List Card) → has_no_pair low_ace cards ≡ true → low_class cards ≡ 0
unfolding low_class
best_class cards none =
    ap
    (λ (b : Bool).
    classes_above
    (b ∷ has_one_pair low_ace cards ∷ has_two_pair low_ace cards
    ∷ has_three_of_a_kind low_ace cards ∷ has_full_house low_ace cards
    ∷ has_four_of_a_kind low_ace cards ∷ []))
    none

-- a hand with points qualifies, and has the points of its ranks
qualified_points : (cards : List Card) (value : ℕ) → eight.points cards ≡ Some value
    → (eight.is_qualified cards ≡ true) × (low_points cards ≡ value)
qualified_points cards value is = cond_some (eight.is_qualified cards) (low_points cards) value is

-- the points of low hands that qualify are fewer if and only if the hand is weaker
eight_ordered : (a b : List Card) (low high : ℕ) → AreHeld 5 a → AreHeld 5 b
    → eight.points a ≡ Some low → eight.points b ≡ Some high → (low < high) ↔ eight.IsWeaker a b
eight_ordered a b low high held_a held_b is_low is_high =
    let good_a = qualified_points a low is_low in
    let good_b = qualified_points b high is_high in
    let class_a =
    best_class a
    (and_parts (has_no_pair low_ace a)
    (list_all (λ card. nat_le (low_ace card.rank) 8) a) good_a.0).0 in
    let class_b =
    best_class b
    (and_parts (has_no_pair low_ace b)
    (list_all (λ card. nat_le (low_ace card.rank) 8) b) good_b.0).0 in
    let law =
    low_ordered a b (omega (arith, held_a.0)) (held_a.0 ∙ sym held_b.0) held_a.1 held_b.1 in (
      λ less.
          elim (law.0 (omega (arith, good_a.1, good_b.1)))
          [ inl worse ↦ absurd (omega arith) | inr rest ↦ rest.1 ],
      λ weaker. let less =
          law.1 (inr (class_a ∙ sym class_b, weaker)) in omega (arith, good_a.1, good_b.1),
    )

-- the order of eight or better is lawful
pub lawful_eight_low : IsLawful (AreHeld 5) eight.IsHand eight.IsWeaker eight.points
lawful_eight_low =
    lawful_by_order (AreHeld 5) eight.IsHand eight.IsWeaker eight.points
    (λ cards held. some_where (eight.is_qualified cards) (low_points cards)) eight_ordered
