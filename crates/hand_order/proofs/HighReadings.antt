-- The best high hand of several cards: the greatest of what its pattern, its straights and its suits make.
use Rattle.std.proofs.Common.{◌≡◌, ℕ, zero, suc, ◌+◌, ◌-◌, ◌^◌, ◌<◌, ◌≤◌, ◌||◌, ◌==◌, Bool, true, false, cond, List, [], ◌∷◌, filter, Option, Some, None, refl, ◌∙◌, ap, arith}
use Rattle.std.proofs.lemmas.Option.{same_Some}
use Rattle.card_set.specs.declared.card.Card.{Card}
use Rattle.card_set.specs.Classes.{classes_above}
use Rattle.card_set.specs.Different.{AllDifferent}
use Rattle.card_set.specs.Ranks.{times, ranks_of, ranks_occurring, high_ace, is_one_suit}
use Rattle.card_set.proofs.Counted.{IsHeight-high_ace, ranks_of-le}
use Rattle.hand_order.specs.declared.ladder.FlushRank.{FlushRank}
use Rattle.hand_order.specs.declared.ladder.FlushRank.TheVariants as flushes
use Rattle.hand_order.specs.declared.straights.LowStraight.{LowStraight}
use Rattle.hand_order.specs.Choices.{choices, IsAmong, AreHeld}
use Rattle.hand_order.specs.Digits.{class_above, with_digits}
use Rattle.hand_order.specs.Points.{greatest}
use Rattle.hand_order.specs.Straights.{is_run, is_low_straight, is_straight, straight_top, deciding_ranks}
use Rattle.hand_order.specs.Ladder.{flush_class, ladder_points, ladder_table, flush_ranked}
use Rattle.hand_order.proofs.Digits.{AreDigits, number_below}
use Rattle.hand_order.proofs.RankDigits.{AreDigits-ranks_of}
use Rattle.hand_order.proofs.Greatest.{Says, says_greatest}
use Rattle.hand_order.proofs.Held.{held_chosen}
use Rattle.hand_order.proofs.HighLaw.{five_cards, straights_of_five}
use Rattle.hand_order.proofs.Shapes.{by_shape}
use Rattle.hand_order.proofs.FittingChoices.{fitting}
use Rattle.hand_order.proofs.PlainHands.{class_of, plain_points, plain_reached, ones_alone, fits_class}
use Rattle.hand_order.proofs.SuitedHands.{of_suit, suited_reached}
use Rattle.hand_order.proofs.FallingRanks.{FallingFrom, ranks_exactly}
use Rattle.hand_order.specs.Patterns.{Fits, plain_class, pattern, IsBestPattern}

-- what a hand counts as, by whether it is a straight and a flush
abbrev pub reading : FlushRank → Bool → Bool → List Card → ℕ
reading flush true true cards = class_above 8 (straight_top (ranks_of high_ace cards) ∷ [])
reading flush false true cards = class_above (flush_class flush) (ranks_of high_ace cards)
reading flush true false cards = class_above 4 (straight_top (ranks_of high_ace cards) ∷ [])
reading flush false false cards = plain_points flush cards

abbrev class_read : FlushRank → Bool → Bool → ℕ → ℕ → ℕ → ℕ
class_read flush true true four three two = 8
class_read flush false true four three two = flush_class flush
class_read flush true false four three two = 4
class_read flush false false four three two = flush_ranked flush (plain_class four three two)

abbrev ReadsAs : FlushRank → ℕ → ℕ → ℕ → ℕ → Bool → Bool → Type 0
ReadsAs flush four three two one straight suited = 8 - classes_above (ladder_table flush four three two straight suited) ≡ class_read flush straight suited four three two

reads_singles : (flush : FlushRank) (s f : Bool) → ReadsAs flush 0 0 0 5 s f
reads_singles flushes.BelowFullHouse true true = refl
reads_singles flushes.BelowFullHouse true false = refl
reads_singles flushes.BelowFullHouse false true = refl
reads_singles flushes.BelowFullHouse false false = refl
reads_singles flushes.AboveFullHouse true true = refl
reads_singles flushes.AboveFullHouse true false = refl
reads_singles flushes.AboveFullHouse false true = refl
reads_singles flushes.AboveFullHouse false false = refl

reads_as : (flush : FlushRank) (low : LowStraight) (cards : List Card) → AreHeld 5 cards → ReadsAs flush (ranks_occurring high_ace cards 4) (ranks_occurring high_ace cards 3) (ranks_occurring high_ace cards 2) (ranks_occurring high_ace cards 1) (is_straight low cards) (is_one_suit cards)
reads_as flushes.BelowFullHouse low cards held =
    let five = five_cards cards held in
    by_shape (ReadsAs flushes.BelowFullHouse) refl refl refl refl refl (reads_singles flushes.BelowFullHouse)
    (ranks_occurring high_ace cards 4) (ranks_occurring high_ace cards 3) (ranks_occurring high_ace cards 2) (ranks_occurring high_ace cards 1) (is_straight low cards) (is_one_suit cards) five.all (straights_of_five low cards) five.flushes
reads_as flushes.AboveFullHouse low cards held =
    let five = five_cards cards held in
    by_shape (ReadsAs flushes.AboveFullHouse) refl refl refl refl refl (reads_singles flushes.AboveFullHouse)
    (ranks_occurring high_ace cards 4) (ranks_occurring high_ace cards 3) (ranks_occurring high_ace cards 2) (ranks_occurring high_ace cards 1) (is_straight low cards) (is_one_suit cards) five.all (straights_of_five low cards) five.flushes

-- the points of a hand are what it counts as
pub points_read : (flush : FlushRank) (low : LowStraight) (cards : List Card) → AreHeld 5 cards → ladder_points flush low cards ≡ reading flush (is_straight low cards) (is_one_suit cards) cards
unfolding deciding_ranks
points_read flush low cards held = by_tests (is_straight low cards) (is_one_suit cards) (reads_as flush low cards held)
  where
    by_tests : (s f : Bool) → ReadsAs flush (ranks_occurring high_ace cards 4) (ranks_occurring high_ace cards 3) (ranks_occurring high_ace cards 2) (ranks_occurring high_ace cards 1) s f → class_above (8 - classes_above (ladder_table flush (ranks_occurring high_ace cards 4) (ranks_occurring high_ace cards 3) (ranks_occurring high_ace cards 2) s f)) (cond s (straight_top (ranks_of high_ace cards) ∷ []) (ranks_of high_ace cards)) ≡ reading flush s f cards
    by_tests true true is = ap (λ (k : ℕ). class_above k (straight_top (ranks_of high_ace cards) ∷ [])) is
    by_tests false true is = ap (λ (k : ℕ). class_above k (ranks_of high_ace cards)) is
    by_tests true false is = ap (λ (k : ℕ). class_above k (straight_top (ranks_of high_ace cards) ∷ [])) is
    by_tests false false is = ap (λ (k : ℕ). class_above k (ranks_of high_ace cards)) is

-- what is at least each reading of a hand is at least its points
pub most_read : (flush : FlushRank) (low : LowStraight) (cards : List Card) (most : ℕ) → AreHeld 5 cards → plain_points flush cards ≤ most → (is_one_suit cards ≡ true → class_above (flush_class flush) (ranks_of high_ace cards) ≤ most) → (is_straight low cards ≡ true → class_above 4 (straight_top (ranks_of high_ace cards) ∷ []) ≤ most) → (is_straight low cards ≡ true → is_one_suit cards ≡ true → class_above 8 (straight_top (ranks_of high_ace cards) ∷ []) ≤ most)
    → ladder_points flush low cards ≤ most
most_read flush low cards most held plain suited straight both = let read = points_read flush low cards held in let bound = by_tests (is_straight low cards) (is_one_suit cards) refl refl in omega arith
  where
    by_tests : (s f : Bool) → is_straight low cards ≡ s → is_one_suit cards ≡ f → reading flush s f cards ≤ most
    by_tests true true is_s is_f = both is_s is_f
    by_tests false true is_s is_f = suited is_f
    by_tests true false is_s is_f = straight is_s
    by_tests false false is_s is_f = plain

flush_within : (flush : FlushRank) → flush_class flush < 8
flush_within flushes.BelowFullHouse = omega arith
flush_within flushes.AboveFullHouse = omega arith

-- a flush counts at least as one
pub flush_least : (flush : FlushRank) (low : LowStraight) (cards : List Card) → AreHeld 5 cards → is_one_suit cards ≡ true → class_above (flush_class flush) (ranks_of high_ace cards) ≤ ladder_points flush low cards
flush_least flush low cards held suited =
    let read = points_read flush low cards held in
    let below = number_below (ranks_of high_ace cards) (omega (arith, ranks_of-le high_ace IsHeight-high_ace cards, held.0)) (AreDigits-ranks_of high_ace cards) in
    let bound = by_tests (is_straight low cards) (is_one_suit cards) suited below in omega arith
  where
    by_tests : (s f : Bool) → f ≡ true → with_digits 0 (ranks_of high_ace cards) < 16 ^ 5 → class_above (flush_class flush) (ranks_of high_ace cards) ≤ reading flush s f cards
    by_tests true true is below = omega (arith, flush_within flush)
    by_tests false true is below = omega arith
    by_tests s false is below = absurd (cc)

-- a straight counts at least as one
pub straight_least : (flush : FlushRank) (low : LowStraight) (cards : List Card) → AreHeld 5 cards → is_straight low cards ≡ true → class_above 4 (straight_top (ranks_of high_ace cards) ∷ []) ≤ ladder_points flush low cards
straight_least flush low cards held straight = let read = points_read flush low cards held in let bound = by_tests (is_straight low cards) (is_one_suit cards) straight in omega arith
  where
    by_tests : (s f : Bool) → s ≡ true → class_above 4 (straight_top (ranks_of high_ace cards) ∷ []) ≤ reading flush s f cards
    by_tests true true is = omega arith
    by_tests true false is = omega arith
    by_tests false f is = absurd (cc)

pub both_least : (flush : FlushRank) (low : LowStraight) (cards : List Card) → AreHeld 5 cards → is_straight low cards ≡ true → is_one_suit cards ≡ true → class_above 8 (straight_top (ranks_of high_ace cards) ∷ []) ≤ ladder_points flush low cards
both_least flush low cards held straight suited = let read = points_read flush low cards held in let bound = by_tests (is_straight low cards) (is_one_suit cards) straight suited in omega arith
  where
    by_tests : (s f : Bool) → s ≡ true → f ≡ true → class_above 8 (straight_top (ranks_of high_ace cards) ∷ []) ≤ reading flush s f cards
    by_tests true true is other = omega arith
    by_tests true false is other = absurd (cc)
    by_tests false f is other = absurd (cc)

-- a hand of five ranks has no pair
pub single : (cards : List Card) → AreHeld 5 cards → ranks_occurring high_ace cards 4 + ranks_occurring high_ace cards 3 + ranks_occurring high_ace cards 2 + ranks_occurring high_ace cards 1 ≡ 5 → class_of cards ≡ 0
single cards held ones = let all = (five_cards cards held).all in none_of (ranks_occurring high_ace cards 4) (ranks_occurring high_ace cards 3) (ranks_occurring high_ace cards 2) (omega arith) (omega arith) (omega arith)
  where
    none_of : (four three two : ℕ) → four ≡ 0 → three ≡ 0 → two ≡ 0 → plain_class four three two ≡ 0
    none_of zero zero zero a b c = refl
    none_of (suc n) three two a b c = absurd (omega arith)
    none_of zero (suc n) two a b c = absurd (omega arith)
    none_of zero zero (suc n) a b c = absurd (omega arith)

flush_some : (flush : FlushRank) → 0 < flush_class flush
flush_some flushes.BelowFullHouse = omega arith
flush_some flushes.AboveFullHouse = omega arith

leveled_none : (flush : FlushRank) (class : ℕ) → class ≡ 0 → flush_ranked flush class ≡ 0
leveled_none flushes.BelowFullHouse class none = none
leveled_none flushes.AboveFullHouse class none = ap (λ (k : ℕ). cond (k == 6) 5 k) none

-- a hand counts at least by how often its ranks occur
pub pattern_least : (flush : FlushRank) (low : LowStraight) (cards : List Card) → AreHeld 5 cards → plain_points flush cards ≤ ladder_points flush low cards
pattern_least flush low cards held =
    let read = points_read flush low cards held in
    let five = five_cards cards held in
    let below = number_below (ranks_of high_ace cards) (omega (arith, ranks_of-le high_ace IsHeight-high_ace cards, held.0)) (AreDigits-ranks_of high_ace cards) in
    let bound = by_tests (is_straight low cards) (is_one_suit cards) (λ is. leveled_none flush (class_of cards) (single cards held (straights_of_five low cards is))) (λ is. leveled_none flush (class_of cards) (single cards held (five.flushes is))) below in omega arith
  where
    by_tests : (s f : Bool) → (s ≡ true → flush_ranked flush (class_of cards) ≡ 0) → (f ≡ true → flush_ranked flush (class_of cards) ≡ 0) → with_digits 0 (ranks_of high_ace cards) < 16 ^ 5 → plain_points flush cards ≤ reading flush s f cards
    by_tests true true straight suited below = let class = straight refl in omega arith
    by_tests true false straight suited below = let class = straight refl in omega arith
    by_tests false true straight suited below = let class = suited refl in omega (arith, flush_some flush)
    by_tests false false straight suited below = omega arith

-- some choice of the cards has at least this many points
pub record IsChosen (flush : FlushRank) (low : LowStraight) (cards : List Card) (least : ℕ) : Type 0 where
  pub choice : List Card
  pub among : IsAmong choice (choices 5 cards)
  pub reached : least ≤ ladder_points flush low choice

-- what is reached and not exceeded is the greatest of all choices
pub best_greatest : (flush : FlushRank) (low : LowStraight) (cards : List Card) (most : ℕ) → IsChosen flush low cards most → ((other : List Card) → IsAmong other (choices 5 cards) → ladder_points flush low other ≤ most) → greatest (λ choice. Some (ladder_points flush low choice)) (choices 5 cards) ≡ Some most
best_greatest flush low cards most best over = by_says (greatest (λ choice. Some (ladder_points flush low choice)) (choices 5 cards)) (says_greatest (λ choice. Some (ladder_points flush low choice)) (choices 5 cards))
  where
    by_says : (found : Option ℕ) → Says (λ choice. Some (ladder_points flush low choice)) (choices 5 cards) found → found ≡ Some most
    by_says None says = let none : Some (ladder_points flush low best.choice) ≡ None = says best.choice best.among in absurd (cc)
    by_says (Some v) says =
        let at = same_Some (ladder_points flush low says.choice) v says.pointed in
        let up = over says.choice says.among in
        let down = says.most best.choice (ladder_points flush low best.choice) best.among refl in
        let reached = best.reached in
        ap (λ (n : ℕ). Some n) (omega arith)

-- the list of heights is a straight
abbrev pub runs : LowStraight → List ℕ → Bool
runs low hs = is_run hs || is_low_straight low hs

-- falling heights that fit the counts are a straight of some choice
pub run_reached : (flush : FlushRank) (low : LowStraight) (cards : List Card) (hs : List ℕ) (bound : ℕ) → AllDifferent cards → Fits (times high_ace cards) (pattern 0) hs → FallingFrom bound hs → runs low hs ≡ true → IsChosen flush low cards (class_above 4 (straight_top hs ∷ []))
run_reached flush low cards hs bound different fits falling run =
    let found = fitting high_ace IsHeight-high_ace (pattern 0) hs cards ones_alone.some fits in
    let held = held_chosen 5 cards found.choice different found.among in
    let exactly = ranks_exactly found.choice hs bound held (fits_class found.choice 0 hs held ones_alone found.fits) found.fits falling in
    let straight : is_straight low found.choice ≡ true = ap (λ (l : List ℕ). runs low l) exactly ∙ run in
    let top = ap (λ (l : List ℕ). class_above 4 (straight_top l ∷ [])) exactly in
    let least = straight_least flush low found.choice held straight in
    record { choice = found.choice; among = found.among; reached = omega arith }

-- and if they fit one suit, a straight flush
pub suited_run_reached : (flush : FlushRank) (low : LowStraight) (s : ℕ) (cards : List Card) (hs : List ℕ) (bound : ℕ) → AllDifferent cards → Fits (times high_ace (filter (of_suit s) cards)) (pattern 0) hs → AreDigits hs → FallingFrom bound hs → runs low hs ≡ true → IsChosen flush low cards (class_above 8 (straight_top hs ∷ []))
suited_run_reached flush low s cards hs bound different fits digits falling run =
    let found = suited_reached s cards hs different fits digits in
    let exactly = ranks_exactly found.choice hs bound found.held (fits_class found.choice 0 hs found.held ones_alone found.fits) found.fits falling in
    let straight : is_straight low found.choice ≡ true = ap (λ (l : List ℕ). runs low l) exactly ∙ run in
    let top = ap (λ (l : List ℕ). class_above 8 (straight_top l ∷ [])) exactly in
    let least = both_least flush low found.choice found.held straight found.suited in
    record { choice = found.choice; among = found.among; reached = omega arith }

-- a flush of some choice
pub flush_reached : (flush : FlushRank) (low : LowStraight) (s : ℕ) (cards : List Card) (hs : List ℕ) → AllDifferent cards → Fits (times high_ace (filter (of_suit s) cards)) (pattern 0) hs → AreDigits hs → IsChosen flush low cards (class_above (flush_class flush) hs)
flush_reached flush low s cards hs different fits digits =
    let found = suited_reached s cards hs different fits digits in
    let least = flush_least flush low found.choice found.held found.suited in
    record { choice = found.choice; among = found.among; reached = omega (arith, found.reached) }

-- a choice by how often ranks occur
pub pattern_reached : (flush : FlushRank) (low : LowStraight) (cards : List Card) (k : ℕ) (hs : List ℕ) → AllDifferent cards → IsBestPattern (times high_ace cards) k hs → IsChosen flush low cards (class_above (flush_ranked flush k) hs)
pattern_reached flush low cards k hs different best =
    let found = plain_reached flush cards k hs different best in
    let least = pattern_least flush low found.choice found.held in
    record { choice = found.choice; among = found.among; reached = omega (arith, found.reached) }
