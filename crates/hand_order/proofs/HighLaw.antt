-- In each class of the high order all hands have the same number of ranks that decide, so the
-- numbers of hands compare as the hands do.
use Rattle.std.proofs.Common.{◌≡◌, ℕ, ◌+◌, ◌*◌, ◌^◌, ◌<◌, ◌≤◌, ◌==◌, ◌||◌, Bool, true, false, cond, List, [], ◌∷◌, length, get_or, inl, inr, ◌↔◌, refl, sym, ◌∙◌, ap, arith}
use Rattle.std.proofs.lemmas.Bool.{or_cases}
use Rattle.card_set.specs.declared.card.Card.{Card}
use Rattle.card_set.specs.Classes.{classes_above}
use Rattle.card_set.specs.Ranks.{high_ace, ranks_occurring, ranks_of, is_one_suit}
use Rattle.card_set.proofs.Counted.{IsHeight-high_ace, few_times, counted, all_once, once_in_suit, length-ranks_of, ranks_of-le}
use Rattle.hand_order.specs.declared.straights.LowStraight.{LowStraight}
use Rattle.hand_order.specs.declared.ladder.FlushRank.TheVariants as flushes
use Rattle.hand_order.specs.Choices.{AreHeld}
use Rattle.hand_order.specs.Ladder.{ladder_points}
use Rattle.hand_order.specs.Digits.{with_digits}
use Rattle.hand_order.specs.Straights.{is_run, is_low_straight, is_straight, straight_top, deciding_ranks, high_class, high_points, IsWeakerHigh}
use Rattle.hand_order.specs.Tables.{high_table}
use Rattle.hand_order.proofs.Digits.{AreDigits, number_below}
use Rattle.hand_order.proofs.RankDigits.{AreDigits-ranks_of}
use Rattle.hand_order.proofs.Shapes.{by_shape}
use Rattle.hand_order.proofs.Ranked.{IsRanked, ranked_law}

-- the top of a straight is a digit
top_is_digit : (ranks : List ℕ) → AreDigits ranks → straight_top ranks < 16
top_is_digit [] digits = omega arith
top_is_digit (a ∷ []) digits = omega arith
top_is_digit (a ∷ b ∷ rest) digits = one_of (a == b + 1)
  where
    one_of : (test : Bool) → cond test a b < 16
    one_of true = digits.0
    one_of false = digits.1.0

-- a straight has five ranks
run_of_five : (ranks : List ℕ) → is_run ranks ≡ true → length ranks ≡ 5
run_of_five [] is = absurd (cc)
run_of_five (a ∷ []) is = absurd (cc)
run_of_five (a ∷ b ∷ []) is = absurd (cc)
run_of_five (a ∷ b ∷ c ∷ []) is = absurd (cc)
run_of_five (a ∷ b ∷ c ∷ d ∷ []) is = absurd (cc)
run_of_five (a ∷ b ∷ c ∷ d ∷ e ∷ []) is = refl
run_of_five (a ∷ b ∷ c ∷ d ∷ e ∷ f ∷ rest) is = absurd (cc)

low_of_five : (low : LowStraight) (ranks : List ℕ) → is_low_straight low ranks ≡ true → length ranks ≡ 5
low_of_five low [] is = absurd (cc)
low_of_five low (a ∷ []) is = absurd (cc)
low_of_five low (a ∷ b ∷ []) is = absurd (cc)
low_of_five low (a ∷ b ∷ c ∷ []) is = absurd (cc)
low_of_five low (a ∷ b ∷ c ∷ d ∷ []) is = absurd (cc)
low_of_five low (a ∷ b ∷ c ∷ d ∷ e ∷ []) is = refl
low_of_five low (a ∷ b ∷ c ∷ d ∷ e ∷ f ∷ rest) is = absurd (cc)

straight_of_five : (low : LowStraight) (ranks : List ℕ) → (is_run ranks || is_low_straight low ranks) ≡ true → length ranks ≡ 5
straight_of_five low ranks is = elim (or_cases (is_run ranks) (is_low_straight low ranks) is) [ inl run ↦ run_of_five ranks run | inr begun ↦ low_of_five low ranks begun ]

-- the ranks of five different cards
pub record IsFive (cards : List Card) : Type 0 where
  pub all : 4 * ranks_occurring high_ace cards 4 + 3 * ranks_occurring high_ace cards 3 + 2 * ranks_occurring high_ace cards 2 + ranks_occurring high_ace cards 1 ≡ 5
  pub flushes : is_one_suit cards ≡ true → ranks_occurring high_ace cards 4 + ranks_occurring high_ace cards 3 + ranks_occurring high_ace cards 2 + ranks_occurring high_ace cards 1 ≡ 5

pub five_cards : (cards : List Card) → AreHeld 5 cards → IsFive cards
five_cards cards held = record {
  all = sym (counted high_ace IsHeight-high_ace cards (few_times high_ace IsHeight-high_ace cards held.1)) ∙ held.0;
  flushes = λ suited. let once = all_once high_ace IsHeight-high_ace cards (once_in_suit high_ace IsHeight-high_ace cards held.1 suited) in omega (arith, held.0);
}

pub straights_of_five : (low : LowStraight) (cards : List Card) → is_straight low cards ≡ true → ranks_occurring high_ace cards 4 + ranks_occurring high_ace cards 3 + ranks_occurring high_ace cards 2 + ranks_occurring high_ace cards 1 ≡ 5
straights_of_five low cards is = sym (length-ranks_of high_ace cards) ∙ straight_of_five low (ranks_of high_ace cards) is

-- how many ranks decide
decide_count : (low : LowStraight) (cards : List Card) → length (deciding_ranks low cards) ≡ cond (is_straight low cards) 1 (length (ranks_of high_ace cards))
unfolding deciding_ranks
decide_count low cards = by_test (is_straight low cards)
  where
    by_test : (test : Bool) → length {A = ℕ} (cond test (straight_top (ranks_of high_ace cards) ∷ []) (ranks_of high_ace cards)) ≡ cond test 1 (length (ranks_of high_ace cards))
    by_test true = refl
    by_test false = refl

decide_digits : (low : LowStraight) (cards : List Card) → AreDigits (deciding_ranks low cards)
unfolding deciding_ranks
decide_digits low cards = by_test (is_straight low cards)
  where
    by_test : (test : Bool) → AreDigits (cond test (straight_top (ranks_of high_ace cards) ∷ []) (ranks_of high_ace cards))
    by_test true = (top_is_digit (ranks_of high_ace cards) (AreDigits-ranks_of high_ace cards), tt)
    by_test false = AreDigits-ranks_of high_ace cards

few_decide : (low : LowStraight) (cards : List Card) → length cards ≡ 5 → length (deciding_ranks low cards) ≤ 5
few_decide low cards five =
    let ranks = ranks_of-le high_ace IsHeight-high_ace cards in
    let count = decide_count low cards in
    by_test (is_straight low cards) count
  where
    by_test : (test : Bool) → length (deciding_ranks low cards) ≡ cond test 1 (length (ranks_of high_ace cards)) → length (deciding_ranks low cards) ≤ 5
    by_test true count = omega (arith, count)
    by_test false count = omega (arith, count, ranks_of-le high_ace IsHeight-high_ace cards, five)

-- the number of the ranks that decide is below the sixth place
pub decide_below : (low : LowStraight) (cards : List Card) → length cards ≡ 5 → with_digits 0 (deciding_ranks low cards) < 16 ^ 5
decide_below low cards five = number_below (deciding_ranks low cards) (few_decide low cards five) (decide_digits low cards)

-- what a table of classes says of its hands
abbrev pub TableSays : (ℕ → ℕ → ℕ → Bool → Bool → List Bool) → List ℕ → ℕ → ℕ → ℕ → ℕ → Bool → Bool → Type 0
TableSays table missing four three two one straight flush = (classes_above (table four three two straight flush) ≤ 8) × (cond straight 1 (four + three + two + one) + get_or missing (classes_above (table four three two straight flush)) 0 ≡ 5)

-- a hand of five different cards is ranked by a table that says this for each way in which ranks
-- occur
pub ranked_by : (table : ℕ → ℕ → ℕ → Bool → Bool → List Bool) (missing : List ℕ) → ((four three two one : ℕ) (straight flush : Bool) → 4 * four + 3 * three + 2 * two + one ≡ 5 → (straight ≡ true → four + three + two + one ≡ 5) → (flush ≡ true → four + three + two + one ≡ 5) → TableSays table missing four three two one straight flush)
    → (low : LowStraight) (class : List Card → ℕ) (cards : List Card) → AreHeld 5 cards → class cards ≡ classes_above (table (ranks_occurring high_ace cards 4) (ranks_occurring high_ace cards 3) (ranks_occurring high_ace cards 2) (is_straight low cards) (is_one_suit cards)) → IsRanked class (deciding_ranks low) missing 8 5 cards
ranked_by table missing every low class cards held is =
    let five = five_cards cards held in
    let says = every (ranks_occurring high_ace cards 4) (ranks_occurring high_ace cards 3) (ranks_occurring high_ace cards 2) (ranks_occurring high_ace cards 1) (is_straight low cards) (is_one_suit cards) five.all (straights_of_five low cards) five.flushes in
    record {
      within = omega (arith, is, says.0);
      long =
          ap (λ (n : ℕ). n + get_or missing (class cards) 0) (decide_count low cards ∙ ap (λ (n : ℕ). cond (is_straight low cards) 1 n) (length-ranks_of high_ace cards))
          ∙ ap (λ (n : ℕ). cond (is_straight low cards) 1 (ranks_occurring high_ace cards 4 + ranks_occurring high_ace cards 3 + ranks_occurring high_ace cards 2 + ranks_occurring high_ace cards 1) + get_or missing n 0) is
          ∙ says.1;
      few = few_decide low cards held.0;
      digits = decide_digits low cards;
    }

-- in each class of the high order, the number of cards minus the number of ranks that decide
abbrev pub high_missing : List ℕ
high_missing = 4 ∷ 3 ∷ 3 ∷ 0 ∷ 4 ∷ 2 ∷ 2 ∷ 1 ∷ 0 ∷ []

high_says : (four three two one : ℕ) (straight flush : Bool) → 4 * four + 3 * three + 2 * two + one ≡ 5 → (straight ≡ true → four + three + two + one ≡ 5) → (flush ≡ true → four + three + two + one ≡ 5) → TableSays high_table high_missing four three two one straight flush
high_says four three two one = by_shape (TableSays high_table high_missing) (omega arith, refl) (omega arith, refl) (omega arith, refl) (omega arith, refl) (omega arith, refl) singles four three two one
  where
    singles : (straight flush : Bool) → TableSays high_table high_missing 0 0 0 5 straight flush
    singles true true = (omega arith, refl)
    singles true false = (omega arith, refl)
    singles false true = (omega arith, refl)
    singles false false = (omega arith, refl)

-- hands of the high order are ranked
pub high_ranked : (low : LowStraight) (cards : List Card) → AreHeld 5 cards → IsRanked (high_class low) (deciding_ranks low) high_missing 8 5 cards
unfolding high_class
high_ranked low cards held = ranked_by high_table high_missing high_says low (high_class low) cards held refl

-- a hand has fewer points if and only if it is weaker
pub high_ordered : (low : LowStraight) (a b : List Card) → AreHeld 5 a → AreHeld 5 b → (high_points low a < high_points low b) ↔ IsWeakerHigh low a b
high_ordered low a b held_a held_b = ranked_law (high_class low) (deciding_ranks low) high_missing 8 5 a b (high_ranked low a held_a) (high_ranked low b held_b)

-- and they are below the seventh place
pub high_below : (low : LowStraight) (cards : List Card) → AreHeld 5 cards → high_points low cards < 16 ^ 6
high_below low cards held = let below = decide_below low cards held.0 in omega arith

-- the points with a flush below a full house are those of the high order
pub ladder_high : (low : LowStraight) (cards : List Card) → ladder_points flushes.BelowFullHouse low cards ≡ high_points low cards
unfolding high_class
ladder_high low cards = refl
