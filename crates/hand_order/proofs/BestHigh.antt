-- The best high hand of several cards has the greatest of what their ranks, their straights and their suits make.
use Rattle.std.proofs.Common.{◌≡◌, ℕ, ◌<◌, ◌≤◌, ◌==◌, ◌⊎◌, ◌^◌, max, Bool, true, false, cond, length, List, [], ◌∷◌, filter, Some, inl, inr, sym, ap, subst, arith}
use Rattle.std.proofs.lemmas.Bool.{cases_lt}
use Rattle.card_set.specs.declared.card.Card.{Card}
use Rattle.card_set.specs.declared.card.Suit.{Suit}
use Rattle.card_set.specs.declared.card.Suit.TheVariants as suits
use Rattle.card_set.specs.Deck.{suits_before}
use Rattle.card_set.specs.Different.{Every, AllDifferent}
use Rattle.card_set.specs.Ranks.{times, ranks_of, high_ace, is_one_suit}
use Rattle.hand_order.specs.declared.ladder.FlushRank.{FlushRank}
use Rattle.hand_order.specs.declared.ladder.FlushRank.TheVariants as flushes
use Rattle.hand_order.specs.declared.straights.LowStraight.{LowStraight}
use Rattle.hand_order.specs.Choices.{choices, IsAmong, AreHeld}
use Rattle.hand_order.specs.Digits.{class_above, AreDigits}
use Rattle.hand_order.specs.Ladder.{flush_class, ladder_points, flush_ranked}
use Rattle.hand_order.specs.Patterns.{Fits, IsPicked, IsPattern, pattern, IsBestNumber, IsBestPattern}
use Rattle.hand_order.specs.Points.{greatest}
use Rattle.hand_order.specs.StraightRanks.{HasStraight, topped}
use Rattle.hand_order.specs.Straights.{is_straight, straight_top}
use Rattle.hand_order.specs.SuitBest.{IsBestOfSuit}
use Rattle.hand_order.proofs.Alike.{Passes}
use Rattle.hand_order.proofs.Digits.{number_below}
use Rattle.hand_order.proofs.BestPatterns.{digits_of}
use Rattle.hand_order.proofs.Fits.{fits-length, fits-within, picked_fits}
use Rattle.hand_order.proofs.FittingChoices.{times_of_ranks}
use Rattle.hand_order.proofs.Held.{held_chosen}
use Rattle.hand_order.proofs.HighLaw.{straights_of_five}
use Rattle.hand_order.proofs.HighReadings.{IsChosen, best_greatest, flush_reached, most_read, pattern_reached, run_reached, single, suited_run_reached}
use Rattle.hand_order.proofs.PlainHands.{class_of, choice_within, hand_picked, ones_alone, pattern_cases, plain_most}
use Rattle.hand_order.proofs.RankDigits.{AreDigits-ranks_of}
use Rattle.hand_order.proofs.SetCounts.{height_least}
use Rattle.hand_order.proofs.StraightBits.{has_list, straight_has}
use Rattle.hand_order.proofs.SuitBits.{topped-le, topped_most, topped_none}
use Rattle.hand_order.proofs.SuitedHands.{chosen_filter, of_suit, suited_class, suited_every}

-- the ranks of a hand of five ranks fit its counts
five_fit : (cards : List Card) → AreHeld 5 cards → class_of cards ≡ 0 → Fits (times high_ace cards) (pattern 0) (ranks_of high_ace cards)
five_fit cards held none =
    picked_fits (times high_ace cards) (pattern 0) (ranks_of high_ace cards)
    (subst (λ (m : ℕ). IsPicked (times high_ace cards) (pattern m) (ranks_of high_ace cards)) none (hand_picked cards held))

-- the ranks of a hand of a suit fit the counts of the suit
suit_fits : (s : ℕ) (cards other : List Card) → Every (Passes (of_suit s)) other → IsAmong other (choices 5 cards) → AreHeld 5 other → is_one_suit other ≡ true → Fits (times high_ace (filter (of_suit s) cards)) (pattern 0) (ranks_of high_ace other)
suit_fits s cards other every among held suited =
    fits-within (times high_ace other) (times high_ace (filter (of_suit s) cards)) (pattern 0) (ranks_of high_ace other)
    (choice_within high_ace 5 (filter (of_suit s) cards) other (chosen_filter (of_suit s) 5 cards other every among))
    (five_fit other held (suited_class other held suited))

-- heights that fit are digits
fits_digits : (cards : List Card) (hs : List ℕ) → Fits (times high_ace cards) (pattern 0) hs → AreDigits hs
fits_digits cards hs fits = digits_of (times high_ace cards) (pattern 0) hs (times_of_ranks high_ace cards) ones_alone.some fits

-- the best of each reading of the cards
pub record AreBest (flush : FlushRank) (low : LowStraight) (cards : List Card) (class : ℕ) (hs : List ℕ) (top clubs diamonds hearts spades : ℕ) : Type 0 where
  pub plain : IsBestPattern (times high_ace cards) class hs
  pub above : (other : ℕ) → HasStraight low (times high_ace cards) other → other ≤ top
  pub found : (top ≡ 0) ⊎ HasStraight low (times high_ace cards) top
  pub of_clubs : IsBestOfSuit flush low (times high_ace (filter (of_suit 0) cards)) clubs
  pub of_diamonds : IsBestOfSuit flush low (times high_ace (filter (of_suit 1) cards)) diamonds
  pub of_hearts : IsBestOfSuit flush low (times high_ace (filter (of_suit 2) cards)) hearts
  pub of_spades : IsBestOfSuit flush low (times high_ace (filter (of_suit 3) cards)) spades

-- a choice has at least less
less_chosen : (flush : FlushRank) (low : LowStraight) (cards : List Card) (less least : ℕ) → less ≤ least → IsChosen flush low cards least → IsChosen flush low cards less
less_chosen flush low cards less least below chosen = record { choice = chosen.choice; among = chosen.among; reached = omega (arith, chosen.reached) }

-- the greater of two that are reached is reached
max_chosen : (flush : FlushRank) (low : LowStraight) (cards : List Card) (a b : ℕ) → IsChosen flush low cards a → IsChosen flush low cards b → IsChosen flush low cards (max a b)
max_chosen flush low cards a b one other =
    elim (cases_lt a b) [ inl less ↦ less_chosen flush low cards (max a b) b (omega arith) other | inr least ↦ less_chosen flush low cards (max a b) a (omega arith) one ]

-- the best of a suit is reached
suit_chosen : (flush : FlushRank) (low : LowStraight) (cards : List Card) (s most : ℕ) → AllDifferent cards → IsBestOfSuit flush low (times high_ace (filter (of_suit s) cards)) most → IsChosen flush low cards 0 → IsChosen flush low cards most
suit_chosen flush low cards s most different best none =
    elim best.reached [
      | inl nothing ↦ less_chosen flush low cards most 0 (omega arith) none
      | inr some ↦ elim some [
        | inl suited ↦ less_chosen flush low cards most (class_above (flush_class flush) suited.hs) suited.reached (flush_reached flush low s cards suited.hs different suited.fits suited.digits)
        | inr straight ↦
            let found = has_list low (times high_ace (filter (of_suit s) cards)) straight.top straight.occurs in
            let tops = ap (λ (t : ℕ). class_above 8 (t ∷ [])) found.tops in
            less_chosen flush low cards most (class_above 8 (straight_top found.hs ∷ [])) (omega (arith, straight.reached, tops))
            (suited_run_reached flush low s cards found.hs found.bound different found.fits (fits_digits (filter (of_suit s) cards) found.hs found.fits) found.falling found.run)
      ]
    ]

-- the best straight is reached
straight_chosen : (flush : FlushRank) (low : LowStraight) (cards : List Card) (top : ℕ) → AllDifferent cards → (top ≡ 0) ⊎ HasStraight low (times high_ace cards) top → IsChosen flush low cards 0 → IsChosen flush low cards (topped 4 top)
straight_chosen flush low cards top different found none =
    elim found [
      | inl nothing ↦ less_chosen flush low cards (topped 4 top) 0 (omega (arith, topped_none 4 top nothing)) none
      | inr occurs ↦
          let list = has_list low (times high_ace cards) top occurs in
          let tops = ap (λ (t : ℕ). class_above 4 (t ∷ [])) list.tops in
          less_chosen flush low cards (topped 4 top) (class_above 4 (straight_top list.hs ∷ [])) (omega (arith, topped-le 4 top, tops))
          (run_reached flush low cards list.hs list.bound different list.fits list.falling list.run)
    ]

-- no choice has more
over : (flush : FlushRank) (low : LowStraight) (cards : List Card) (class : ℕ) (hs : List ℕ) (top clubs diamonds hearts spades most : ℕ) → AllDifferent cards → AreBest flush low cards class hs top clubs diamonds hearts spades → most ≡ max (max (max (max (max (class_above (flush_ranked flush class) hs) (topped 4 top)) clubs) diamonds) hearts) spades
    → (other : List Card) → IsAmong other (choices 5 cards) → ladder_points flush low other ≤ most
over flush low cards class hs top clubs diamonds hearts spades most different best is other among =
    let held = held_chosen 5 cards other different among in
    most_read flush low other most held
    (omega (arith, plain_most flush cards other class hs best.plain among held))
    (λ suited. flush_under other among held suited)
    (λ straight.
    let fits = fits-within (times high_ace other) (times high_ace cards) (pattern 0) (ranks_of high_ace other) (choice_within high_ace 5 cards other among) (five_fit other held (single other held (straights_of_five low other straight))) in
    let has = straight_has low (times high_ace cards) (ranks_of high_ace other) (λ h some. (height_least cards h some).0) fits straight in
    omega (arith, topped_most low (times high_ace cards) 4 (straight_top (ranks_of high_ace other)) top has (best.above (straight_top (ranks_of high_ace other)) has)))
    (λ straight suited. both_under other among held straight suited)
  where
    under : (T : ℕ → Type 0) (suit : Suit) → T 0 → T 1 → T 2 → T 3 → T (suits_before suit)
    under T suits.C zero one two three = zero
    under T suits.D zero one two three = one
    under T suits.H zero one two three = two
    under T suits.S zero one two three = three

    flush_under : (other : List Card) → IsAmong other (choices 5 cards) → AreHeld 5 other → is_one_suit other ≡ true → class_above (flush_class flush) (ranks_of high_ace other) ≤ most
    flush_under [] among held suited = absurd (cc)
    flush_under (card ∷ rest) among held suited =
        let digits = AreDigits-ranks_of high_ace (card ∷ rest) in
        let all = under (λ s. Fits (times high_ace (filter (of_suit s) cards)) (pattern 0) (ranks_of high_ace (card ∷ rest)) → class_above (flush_class flush) (ranks_of high_ace (card ∷ rest)) ≤ most) card.suit
        (λ fits. omega (arith, best.of_clubs.flushes (ranks_of high_ace (card ∷ rest)) fits digits))
        (λ fits. omega (arith, best.of_diamonds.flushes (ranks_of high_ace (card ∷ rest)) fits digits))
        (λ fits. omega (arith, best.of_hearts.flushes (ranks_of high_ace (card ∷ rest)) fits digits))
        (λ fits. omega (arith, best.of_spades.flushes (ranks_of high_ace (card ∷ rest)) fits digits)) in
        all (suit_fits (suits_before card.suit) cards (card ∷ rest) (suited_every card rest suited) among held suited)

    both_under : (other : List Card) → IsAmong other (choices 5 cards) → AreHeld 5 other → is_straight low other ≡ true → is_one_suit other ≡ true → class_above 8 (straight_top (ranks_of high_ace other) ∷ []) ≤ most
    both_under [] among held straight suited = absurd (cc)
    both_under (card ∷ rest) among held straight suited =
        let has = λ (s : ℕ) (fits : Fits (times high_ace (filter (of_suit s) cards)) (pattern 0) (ranks_of high_ace (card ∷ rest))). straight_has low (times high_ace (filter (of_suit s) cards)) (ranks_of high_ace (card ∷ rest)) (λ h some. (height_least (filter (of_suit s) cards) h some).0) fits straight in
        let all = under (λ s. Fits (times high_ace (filter (of_suit s) cards)) (pattern 0) (ranks_of high_ace (card ∷ rest)) → class_above 8 (straight_top (ranks_of high_ace (card ∷ rest)) ∷ []) ≤ most) card.suit
        (λ fits. omega (arith, best.of_clubs.straights (straight_top (ranks_of high_ace (card ∷ rest))) (has 0 fits)))
        (λ fits. omega (arith, best.of_diamonds.straights (straight_top (ranks_of high_ace (card ∷ rest))) (has 1 fits)))
        (λ fits. omega (arith, best.of_hearts.straights (straight_top (ranks_of high_ace (card ∷ rest))) (has 2 fits)))
        (λ fits. omega (arith, best.of_spades.straights (straight_top (ranks_of high_ace (card ∷ rest))) (has 3 fits))) in
        all (suit_fits (suits_before card.suit) cards (card ∷ rest) (suited_every card rest suited) among held suited)

-- the greatest of all is that of the choices
pub high_best : (flush : FlushRank) (low : LowStraight) (cards : List Card) (class : ℕ) (hs : List ℕ) (top clubs diamonds hearts spades most : ℕ) → AllDifferent cards → AreBest flush low cards class hs top clubs diamonds hearts spades → most ≡ max (max (max (max (max (class_above (flush_ranked flush class) hs) (topped 4 top)) clubs) diamonds) hearts) spades
    → greatest (λ choice. Some (ladder_points flush low choice)) (choices 5 cards) ≡ Some most
high_best flush low cards class hs top clubs diamonds hearts spades most different best is =
    let plain = pattern_reached flush low cards class hs different best.plain in
    let none = less_chosen flush low cards 0 (class_above (flush_ranked flush class) hs) (omega arith) plain in
    let reached =
    max_chosen flush low cards _ spades (max_chosen flush low cards _ hearts (max_chosen flush low cards _ diamonds (max_chosen flush low cards _ clubs (max_chosen flush low cards (class_above (flush_ranked flush class) hs) (topped 4 top) plain
    (straight_chosen flush low cards top different best.found none))
    (suit_chosen flush low cards 0 clubs different best.of_clubs none))
    (suit_chosen flush low cards 1 diamonds different best.of_diamonds none))
    (suit_chosen flush low cards 2 hearts different best.of_hearts none))
    (suit_chosen flush low cards 3 spades different best.of_spades none) in
    best_greatest flush low cards most (subst (IsChosen flush low cards) (sym is) reached) (over flush low cards class hs top clubs diamonds hearts spades most different best is)

pattern_few : (class : ℕ) → IsPattern class → length (pattern class) ≤ 5
pattern_few class kind = elim (pattern_cases class kind) [
  | inl is ↦ few class 7 is (omega arith)
  | inr l ↦ elim l [
    | inl is ↦ few class 6 is (omega arith)
    | inr l ↦ elim l [ inl is ↦ few class 3 is (omega arith) | inr l ↦ elim l [ inl is ↦ few class 2 is (omega arith) | inr l ↦ elim l [ inl is ↦ few class 1 is (omega arith) | inr is ↦ few class 0 is (omega arith) ] ] ]
  ]
]
  where
    few : (class other : ℕ) → class ≡ other → length (pattern other) ≤ 5 → length (pattern class) ≤ 5
    few class other is long = subst (λ (k : ℕ). length (pattern k) ≤ 5) (sym is) long

class_few : (class : ℕ) → IsPattern class → class ≤ 15
class_few class kind = elim (pattern_cases class kind) [
  | inl is ↦ omega arith
  | inr l ↦ elim l [ inl is ↦ omega arith | inr l ↦ elim l [ inl is ↦ omega arith | inr l ↦ elim l [ inl is ↦ omega arith | inr l ↦ elim l [ inl is ↦ omega arith | inr is ↦ omega arith ] ] ] ]
]

-- the class of a pattern is at most seven
pub leveled_few : (flush : FlushRank) (class : ℕ) → IsPattern class → flush_ranked flush class ≤ 15
leveled_few flushes.BelowFullHouse class kind = class_few class kind
leveled_few flushes.AboveFullHouse class kind = by_test (class == 6) (class_few class kind)
  where
    by_test : (b : Bool) → class ≤ 15 → cond b 5 class ≤ 15
    by_test true few = omega arith
    by_test false few = few

-- the number of the best pattern is below the sixth place
pub pattern_below : (T : ℕ → ℕ) (class number : ℕ) → IsBestNumber T class number → number < 16 ^ 5
pattern_below T class number found =
    let long = fits-length T (pattern class) found.hs (picked_fits T (pattern class) found.hs found.best.picked) in
    omega (arith, found.written, number_below found.hs (omega (arith, long, pattern_few class found.best.kind)) found.best.digits)
