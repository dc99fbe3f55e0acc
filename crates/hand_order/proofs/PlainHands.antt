-- The class of a hand without a straight and a flush is a pattern of how often ranks occur, and the
-- best of several cards is the best pattern that they fit.
use Rattle.std.proofs.Common.{◌≡◌, ◌≢◌, ◌==◌, ◌⊎◌, ℕ, zero, suc, ◌<◌, ◌≤◌, Bool, true, false, cond, List, [], ◌∷◌, ◌++◌, inl, inr, refl, sym, ◌∙◌, ap, subst, arith, eqb-true}
use Rattle.std.proofs.lemmas.Bool.{cases_lt}
use Rattle.card_set.specs.declared.card.Card.{Card}
use Rattle.card_set.specs.declared.card.Rank.{Rank}
use Rattle.card_set.specs.Ranks.{times, ranks_of, ranks_occurring, high_ace, is_one_suit}
use Rattle.card_set.proofs.Counted.{IsHeight-high_ace, times-none, times-cons, all_times, ranks_occurring_count, ranks_of-le}
use Rattle.hand_order.specs.declared.ladder.FlushRank.{FlushRank}
use Rattle.hand_order.specs.declared.ladder.FlushRank.TheVariants as flushes
use Rattle.hand_order.specs.declared.straights.LowStraight.TheVariants as straights
use Rattle.card_set.specs.Different.{AllDifferent}
use Rattle.hand_order.specs.Choices.{choices, IsAmong, AreHeld}
use Rattle.hand_order.specs.Digits.{class_above}
use Rattle.hand_order.specs.Ladder.{flush_ranked}
use Rattle.hand_order.specs.Straights.{is_straight}
use Rattle.hand_order.proofs.Digits.{AreDigits, number_below}
use Rattle.hand_order.proofs.RankDigits.{AreDigits-ranks_of}
use Rattle.hand_order.proofs.Held.{choice_cases, no_choice, one_choice, held_chosen}
use Rattle.hand_order.proofs.HighLaw.{five_cards, straights_of_five}
use Rattle.hand_order.proofs.Shapes.{by_shape}
use Rattle.hand_order.proofs.Fits.{fits-within, picked_fits, picked_number}
use Rattle.hand_order.proofs.FittingChoices.{times_of_ranks, fitting, fits_counts}
use Rattle.hand_order.proofs.OwnRanks.{several, InRange-high_ace, own_picked}
use Rattle.hand_order.specs.Patterns.{without, Within, Fits, IsPicked, among_numbers, plain_class, pattern, IsPattern, IsBestPattern}

-- the points of a hand without straights and flushes
abbrev pub plain_points : FlushRank → List Card → ℕ
plain_points flush cards = class_above (flush_ranked flush (plain_class (ranks_occurring high_ace cards 4) (ranks_occurring high_ace cards 3) (ranks_occurring high_ace cards 2))) (ranks_of high_ace cards)

pub four_and_one : IsPattern 7
four_and_one = record { some = search arith; five = refl; class = refl }

pub three_and_two : IsPattern 6
three_and_two = record { some = search arith; five = refl; class = refl }

pub three_alone : IsPattern 3
three_alone = record { some = search arith; five = refl; class = refl }

pub two_and_two : IsPattern 2
two_and_two = record { some = search arith; five = refl; class = refl }

pub two_alone : IsPattern 1
two_alone = record { some = search arith; five = refl; class = refl }

pub ones_alone : IsPattern 0
ones_alone = record { some = search arith; five = refl; class = refl }

-- the class of these cards
abbrev pub class_of : List Card → ℕ
class_of cards = plain_class (ranks_occurring high_ace cards 4) (ranks_occurring high_ace cards 3) (ranks_occurring high_ace cards 2)

abbrev OwnPattern : ℕ → ℕ → ℕ → ℕ → Bool → Bool → Type 0
OwnPattern four three two one straight flush = (several four 4 ++ (several three 3 ++ (several two 2 ++ (several one 1 ++ []))) ≡ pattern (plain_class four three two)) × IsPattern (plain_class four three two)

own_pattern : (cards : List Card) → AreHeld 5 cards → OwnPattern (ranks_occurring high_ace cards 4) (ranks_occurring high_ace cards 3) (ranks_occurring high_ace cards 2) (ranks_occurring high_ace cards 1) (is_straight straights.Nothing cards) (is_one_suit cards)
own_pattern cards held =
    let five = five_cards cards held in
    by_shape OwnPattern (refl, four_and_one) (refl, three_and_two) (refl, three_alone) (refl, two_and_two) (refl, two_alone) (λ s f. (refl, ones_alone))
    (ranks_occurring high_ace cards 4) (ranks_occurring high_ace cards 3) (ranks_occurring high_ace cards 2) (ranks_occurring high_ace cards 1) (is_straight straights.Nothing cards) (is_one_suit cards) five.all (straights_of_five straights.Nothing cards) five.flushes

-- the ranks of a hand are picked by the pattern of its class
pub hand_picked : (cards : List Card) → AreHeld 5 cards → IsPicked (times high_ace cards) (pattern (class_of cards)) (ranks_of high_ace cards)
hand_picked cards held = subst (λ (p : List ℕ). IsPicked (times high_ace cards) p (ranks_of high_ace cards)) (own_pattern cards held).0 (own_picked high_ace IsHeight-high_ace InRange-high_ace cards held.1)

-- heights that fit its counts decide the class of a hand
pub fits_class : (cards : List Card) (k : ℕ) (hs : List ℕ) → AreHeld 5 cards → IsPattern k → Fits (times high_ace cards) (pattern k) hs → class_of cards ≡ k
fits_class cards k hs held kind fits =
    let all = all_times high_ace IsHeight-high_ace cards ∙ held.0 ∙ sym kind.five in
    let at = λ (n : ℕ) (some : 0 < n). ranks_occurring_count high_ace cards n ∙ fits_counts high_ace IsHeight-high_ace (times high_ace cards) (pattern k) hs n some (times_of_ranks high_ace cards) kind.some fits all in
    ap (λ (n : ℕ). plain_class n (ranks_occurring high_ace cards 3) (ranks_occurring high_ace cards 2)) (at 4 (omega arith))
    ∙ ap (λ (n : ℕ). plain_class (among_numbers 4 (pattern k)) n (ranks_occurring high_ace cards 2)) (at 3 (omega arith))
    ∙ ap (λ (n : ℕ). plain_class (among_numbers 4 (pattern k)) (among_numbers 3 (pattern k)) n) (at 2 (omega arith))
    ∙ kind.class

-- a hand is at least what heights that fit its counts make
pub plain_least : (flush : FlushRank) (cards : List Card) (k : ℕ) (hs : List ℕ) → AreHeld 5 cards → IsPattern k → Fits (times high_ace cards) (pattern k) hs → AreDigits hs → class_above (flush_ranked flush k) hs ≤ plain_points flush cards
plain_least flush cards k hs held kind fits digits =
    let class = fits_class cards k hs held kind fits in
    let own = subst (λ (m : ℕ). IsPicked (times high_ace cards) (pattern m) (ranks_of high_ace cards)) class (hand_picked cards held) in
    let level = ap (flush_ranked flush) class in
    omega (arith, picked_number (times high_ace cards) (times high_ace cards) (pattern k) (ranks_of high_ace cards) hs (λ h. omega arith) own fits (AreDigits-ranks_of high_ace cards) digits, level)

-- classes with a pattern of their own
abbrev pub OneOf : ℕ → Type 0
OneOf j = (j ≡ 7) ⊎ ((j ≡ 6) ⊎ ((j ≡ 3) ⊎ ((j ≡ 2) ⊎ ((j ≡ 1) ⊎ (j ≡ 0)))))

pub pattern_cases : (j : ℕ) → IsPattern j → OneOf j
pattern_cases j kind = by_tests (j == 7) refl (j == 6) refl (j == 3) refl (j == 2) refl (j == 1) refl kind.class
  where
    of_pattern : List ℕ → ℕ
    of_pattern p = plain_class (among_numbers 4 p) (among_numbers 3 p) (among_numbers 2 p)

    by_tests : (a : Bool) → (j == 7) ≡ a → (b : Bool) → (j == 6) ≡ b → (c : Bool) → (j == 3) ≡ c → (d : Bool) → (j == 2) ≡ d → (e : Bool) → (j == 1) ≡ e
        → of_pattern (cond a (4 ∷ 1 ∷ []) (cond b (3 ∷ 2 ∷ []) (cond c (3 ∷ 1 ∷ 1 ∷ []) (cond d (2 ∷ 2 ∷ 1 ∷ []) (cond e (2 ∷ 1 ∷ 1 ∷ 1 ∷ []) (1 ∷ 1 ∷ 1 ∷ 1 ∷ 1 ∷ [])))))) ≡ j → OneOf j
    by_tests true is b b_is c c_is d d_is e e_is class = inl (eqb-true j 7 is)
    by_tests false is true b_is c c_is d d_is e e_is class = inr (inl (eqb-true j 6 b_is))
    by_tests false is false b_is true c_is d d_is e e_is class = inr (inr (inl (eqb-true j 3 c_is)))
    by_tests false is false b_is false c_is true d_is e e_is class = inr (inr (inr (inl (eqb-true j 2 d_is))))
    by_tests false is false b_is false c_is false d_is true e_is class = inr (inr (inr (inr (inl (eqb-true j 1 e_is)))))
    by_tests false is false b_is false c_is false d_is false e_is class = inr (inr (inr (inr (inr (sym class)))))

-- no hand without straight and flush has the class of a straight or of a flush
plain_apart : (j : ℕ) → IsPattern j → (j ≢ 4) × (j ≢ 5)
plain_apart j kind = elim (pattern_cases j kind) [
  | inl is ↦ ((λ four. omega arith), (λ five. omega arith))
  | inr l ↦ elim l [
    | inl is ↦ ((λ four. omega arith), (λ five. omega arith))
    | inr l ↦ elim l [
      | inl is ↦ ((λ four. omega arith), (λ five. omega arith))
      | inr l ↦ elim l [
        | inl is ↦ ((λ four. omega arith), (λ five. omega arith))
        | inr l ↦ elim l [ inl is ↦ ((λ four. omega arith), (λ five. omega arith)) | inr is ↦ ((λ four. omega arith), (λ five. omega arith)) ]
      ]
    ]
  ]
]

-- classes stay in order if a flush ranks above a full house
pub leveled_rises : (flush : FlushRank) (j k : ℕ) → IsPattern j → j < k → flush_ranked flush j < flush_ranked flush k
leveled_rises flushes.BelowFullHouse j k kind less = less
leveled_rises flushes.AboveFullHouse j k kind less = by_tests (j == 6) refl (k == 6) refl
  where
    by_tests : (a : Bool) → (j == 6) ≡ a → (b : Bool) → (k == 6) ≡ b → cond a 5 j < cond b 5 k
    by_tests true is b other = later b other
      where
        later : (b : Bool) → (k == 6) ≡ b → 5 < cond b 5 k
        later true at = absurd (omega (arith, eqb-true j 6 is, eqb-true k 6 at))
        later false at = omega (arith, eqb-true j 6 is)
    by_tests false is true other =
        let apart = plain_apart j kind in
        elim (cases_lt j 5) [ inl few ↦ few | inr many ↦ elim (cases_lt j 6) [ inl five ↦ absurd (apart.1 (omega arith)) | inr six ↦ absurd (omega (arith, eqb-true k 6 other)) ] ]
    by_tests false is false other = less

-- a choice has each height at most as often
pub choice_within : (height : Rank → ℕ) (n : ℕ) (cards choice : List Card) → IsAmong choice (choices n cards) → Within (times height choice) (times height cards)
choice_within height zero cards choice among h = let none = ap (λ (l : List Card). times height l h) (one_choice cards choice among) in omega (arith, times-none height h)
choice_within height (suc n) [] choice among h = absurd (no_choice n choice among)
choice_within height (suc n) (card ∷ rest) choice among h =
    elim (choice_cases n card rest choice among) [
      | inl with ↦ let made = ap (λ (l : List Card). times height l h) with.made in omega (arith, times-cons height card with.origin h, times-cons height card rest h, choice_within height n rest with.origin with.among h)
      | inr without ↦ omega (arith, times-cons height card rest h, choice_within height (suc n) rest choice without h)
    ]

-- no choice is greater
pub plain_most : (flush : FlushRank) (cards choice : List Card) (k : ℕ) (hs : List ℕ) → IsBestPattern (times high_ace cards) k hs → IsAmong choice (choices 5 cards) → AreHeld 5 choice → plain_points flush choice ≤ class_above (flush_ranked flush k) hs
plain_most flush cards choice k hs best among held =
    let within = choice_within high_ace 5 cards choice among in
    let own = hand_picked choice held in
    let fits = picked_fits (times high_ace choice) (pattern (class_of choice)) (ranks_of high_ace choice) own in
    let below = number_below (ranks_of high_ace choice) (omega (arith, ranks_of-le high_ace IsHeight-high_ace choice, held.0)) (AreDigits-ranks_of high_ace choice) in
    elim (cases_lt k (class_of choice)) [
      | inl above ↦ absurd (best.none (class_of choice) (ranks_of high_ace choice) (own_pattern choice held).1 above (fits-within (times high_ace choice) (times high_ace cards) (pattern (class_of choice)) (ranks_of high_ace choice) within fits))
      | inr least ↦ elim (cases_lt (class_of choice) k) [
        | inl less ↦ let level = leveled_rises flush (class_of choice) k (own_pattern choice held).1 less in omega (arith, below)
        | inr most ↦
            let same : class_of choice ≡ k = omega arith in
            let fits_k = subst (λ (m : ℕ). Fits (times high_ace choice) (pattern m) (ranks_of high_ace choice)) same fits in
            let level = ap (flush_ranked flush) same in
            omega (arith, level, picked_number (times high_ace cards) (times high_ace choice) (pattern k) hs (ranks_of high_ace choice) within best.picked fits_k best.digits (AreDigits-ranks_of high_ace choice))
      ]
    ]

-- and some choice reaches it
pub record IsReached (flush : FlushRank) (cards : List Card) (most : ℕ) : Type 0 where
  pub choice : List Card
  pub among : IsAmong choice (choices 5 cards)
  pub held : AreHeld 5 choice
  pub reached : most ≤ plain_points flush choice

pub plain_reached : (flush : FlushRank) (cards : List Card) (k : ℕ) (hs : List ℕ) → AllDifferent cards → IsBestPattern (times high_ace cards) k hs → IsReached flush cards (class_above (flush_ranked flush k) hs)
plain_reached flush cards k hs different best =
    let found = fitting high_ace IsHeight-high_ace (pattern k) hs cards best.kind.some (picked_fits (times high_ace cards) (pattern k) hs best.picked) in
    let among = subst (λ (n : ℕ). IsAmong found.choice (choices n cards)) best.kind.five found.among in
    let held = held_chosen 5 cards found.choice different among in
    record { choice = found.choice; among = among; held = held; reached = plain_least flush found.choice k hs held best.kind found.fits best.digits }
