-- The best low hand up to the eight has the five lowest ranks of the cards up to the eight.
use Rattle.std.proofs.Common.{◌≡◌, ◌-◌, ◌+◌, ◌^◌, ◌<◌, ◌≤◌, ◌==◌, ◌&&◌, ℕ, zero, suc, Bool, true, false, cond, List, [], ◌∷◌, ◌++◌, length, filter, Option, Some, None, inl, inr, refl, sym, ◌∙◌, ap, subst, arith, eqb-true}
use Rattle.std.specs.List.{list_all}
use Rattle.std.specs.Prelude.{nat_le}
use Rattle.std.proofs.lemmas.Bool.{and_parts, cases_lt, le-leb, leb-true}
use Rattle.std.proofs.lemmas.Option.{cond_some, same_Some}
use Rattle.card_set.specs.declared.card.Card.{Card}
use Rattle.card_set.specs.declared.card.Rank.TheVariants as ranks
use Rattle.card_set.specs.Classes.{has_no_pair}
use Rattle.card_set.specs.Different.{AllDifferent}
use Rattle.card_set.specs.Ranks.{falling_heights, low_ace, occurring, ranks_occurring, ranks_of, times}
use Rattle.card_set.proofs.Counted.{IsHeight-low_ace, all_times, counted, few_times, ranks_occurring_count, times-cons, times-none}
use Rattle.hand_order.specs.Choices.{choices, AreHeld, IsAmong}
use Rattle.hand_order.specs.Digits.{class_above, with_digits}
use Rattle.hand_order.specs.Lowest.{lowest}
use Rattle.hand_order.specs.Patterns.{Fits, IsPicked, Within, pattern}
use Rattle.hand_order.specs.Points.{greatest}
use Rattle.hand_order.proofs.Alike.{Passes, all_every, every_all}
use Rattle.hand_order.proofs.Digits.{number_below}
use Rattle.hand_order.proofs.FallingRanks.{FallingFrom, falling_picked, picked_same}
use Rattle.hand_order.proofs.FittingChoices.{fits_counts, fitting, times_of_ranks}
use Rattle.hand_order.proofs.Greatest.{Says, says_greatest}
use Rattle.hand_order.proofs.Held.{every_chosen, held_chosen}
use Rattle.hand_order.proofs.LowestLaws.{Pass, digits_within, few_lowest, lowest_least, lowest_passes}
use Rattle.hand_order.proofs.OwnRanks.{InRange, all_down, down, own_picked, pattern_of, several}
use Rattle.hand_order.proofs.PlainHands.{choice_within, ones_alone}
use Rattle.hand_order.proofs.StraightBits.{Occur, ones_fit}
use Rattle.hand_order.proofs.SuitedHands.{chosen_filter, every_filter, filter_chosen}
use Rattle.low_rank.specs.EightLow.{is_qualified, points}
use Rattle.low_rank.specs.Low.{low_points}
use Rattle.low_rank.specs.LowLaw.{best_class}
use Rattle.std.proofs.lemmas.List.{nil_from_length}

-- the card is at most an eight
abbrev pub is_low : Card → Bool
is_low card = nat_le (low_ace card.rank) 8

pub InRange-low_ace : InRange low_ace
InRange-low_ace ranks.Two = (omega arith, omega arith)
InRange-low_ace ranks.Three = (omega arith, omega arith)
InRange-low_ace ranks.Four = (omega arith, omega arith)
InRange-low_ace ranks.Five = (omega arith, omega arith)
InRange-low_ace ranks.Six = (omega arith, omega arith)
InRange-low_ace ranks.Seven = (omega arith, omega arith)
InRange-low_ace ranks.Eight = (omega arith, omega arith)
InRange-low_ace ranks.Nine = (omega arith, omega arith)
InRange-low_ace ranks.Ten = (omega arith, omega arith)
InRange-low_ace ranks.Jack = (omega arith, omega arith)
InRange-low_ace ranks.Queen = (omega arith, omega arith)
InRange-low_ace ranks.King = (omega arith, omega arith)
InRange-low_ace ranks.Ace = (omega arith, omega arith)

-- the heights of the low cards are at most eight
pub low_heights : (cards : List Card) (h : ℕ) → 0 < times low_ace (filter is_low cards) h → h ≤ 8
low_heights [] h some = absurd (omega (arith, times-none low_ace h))
low_heights (card ∷ rest) h some = by_test (is_low card) refl (low_heights rest h) some
  where
    by_test : (b : Bool) → is_low card ≡ b → (0 < times low_ace (filter is_low rest) h → h ≤ 8) → 0 < times low_ace (cond b (card ∷ filter is_low rest) (filter is_low rest)) h → h ≤ 8
    by_test true is others some =
        elim (cases_lt 0 (times low_ace (filter is_low rest) h)) [
          | inl more ↦ others more
          | inr none ↦ here (low_ace card.rank == h) refl (times-cons low_ace card (filter is_low rest) h) none some
        ]
      where
        here : (t : Bool) → (low_ace card.rank == h) ≡ t → times low_ace (card ∷ filter is_low rest) h ≡ cond (low_ace card.rank == h) 1 0 + times low_ace (filter is_low rest) h → times low_ace (filter is_low rest) h ≤ 0 → 0 < times low_ace (card ∷ filter is_low rest) h → h ≤ 8
        here true same cons none some = omega (arith, eqb-true (low_ace card.rank) h same, leb-true (low_ace card.rank) 8 is)
        here false other cons none some = let off = ap (λ (b : Bool). cond {A = ℕ} b 1 0) other in absurd (omega arith)
    by_test false is others some = others some

-- heights that are filtered fall and pass
pub filter_falls : (q : ℕ → Bool) (b bound : ℕ) → b < bound → FallingFrom bound (filter q (down b))
filter_falls q zero bound below = tt
filter_falls q (suc b) bound below = by_test (q (suc b)) (filter_falls q b (suc b) (omega arith)) (filter_falls q b bound (omega arith))
  where
    by_test : (t : Bool) → FallingFrom (suc b) (filter q (down b)) → FallingFrom bound (filter q (down b)) → FallingFrom bound (cond t (suc b ∷ filter q (down b)) (filter q (down b)))
    by_test true under over = (below, under)
    by_test false under over = over

pub filter_passes : (q has : ℕ → Bool) → ((h : ℕ) → 1 ≤ h → q h ≡ true → has h ≡ true) → (b : ℕ) → Pass has 1 (filter q (down b))
filter_passes q has turn zero = tt
filter_passes q has turn (suc b) = by_test (q (suc b)) refl (filter_passes q has turn b)
  where
    by_test : (t : Bool) → q (suc b) ≡ t → Pass has 1 (filter q (down b)) → Pass has 1 (cond t (suc b ∷ filter q (down b)) (filter q (down b)))
    by_test true is rest = (turn (suc b) (omega arith) is, omega arith, rest)
    by_test false is rest = rest

-- the ranks of a hand without a pair occur once
ones_only : (cards : List Card) → has_no_pair low_ace cards ≡ true → ranks_of low_ace cards ≡ occurring low_ace cards 1
unfolding ranks_of
ones_only cards none =
    let two = and_parts (ranks_occurring low_ace cards 4 == 0 && ranks_occurring low_ace cards 3 == 0) (ranks_occurring low_ace cards 2 == 0) none in
    let three = and_parts (ranks_occurring low_ace cards 4 == 0) (ranks_occurring low_ace cards 3 == 0) two.0 in
    ap (λ (l : List ℕ). l ++ (occurring low_ace cards 3 ++ (occurring low_ace cards 2 ++ occurring low_ace cards 1))) (nil_from_length (occurring low_ace cards 4) (eqb-true (ranks_occurring low_ace cards 4) 0 three.0))
    ∙ ap (λ (l : List ℕ). l ++ (occurring low_ace cards 2 ++ occurring low_ace cards 1)) (nil_from_length (occurring low_ace cards 3) (eqb-true (ranks_occurring low_ace cards 3) 0 three.1))
    ∙ ap (λ (l : List ℕ). l ++ occurring low_ace cards 1) (nil_from_length (occurring low_ace cards 2) (eqb-true (ranks_occurring low_ace cards 2) 0 two.1))

five_ranks : (cards : List Card) → AreHeld 5 cards → has_no_pair low_ace cards ≡ true → ranks_occurring low_ace cards 1 ≡ 5
five_ranks cards held none =
    let two = and_parts (ranks_occurring low_ace cards 4 == 0 && ranks_occurring low_ace cards 3 == 0) (ranks_occurring low_ace cards 2 == 0) none in
    let three = and_parts (ranks_occurring low_ace cards 4 == 0) (ranks_occurring low_ace cards 3 == 0) two.0 in
    let a = eqb-true (ranks_occurring low_ace cards 4) 0 three.0 in
    let b = eqb-true (ranks_occurring low_ace cards 3) 0 three.1 in
    let d = eqb-true (ranks_occurring low_ace cards 2) 0 two.1 in
    omega (arith, counted low_ace IsHeight-low_ace cards (few_times low_ace IsHeight-low_ace cards held.1), held.0, a, b, d)

-- what the test says of the low cards
abbrev pub Tells : (ℕ → Bool) → List Card → Type 0
Tells has cards = (h : ℕ) → 1 ≤ h → h ≤ 8 → (has h ≡ true → 0 < times low_ace (filter is_low cards) h) × (0 < times low_ace (filter is_low cards) h → has h ≡ true)

pub falls_within : (bound most : ℕ) (has : ℕ → Bool) (hs : List ℕ) → FallingFrom bound hs → ((h : ℕ) → has h ≡ true → h ≤ most) → Pass has 1 hs → FallingFrom (most + 1) hs
falls_within bound most has [] falling low pass = tt
falls_within bound most has (h ∷ hs) falling low pass = (omega (arith, low h pass.0), falling.1)

-- a hand that qualifies has ranks that are among the low ones of the cards
record IsLowHand (has : ℕ → Bool) (choice : List Card) : Type 0 where
  pub ranks : List ℕ
  pub same : ranks_of low_ace choice ≡ ranks
  pub long : length ranks ≡ 5
  pub falling : FallingFrom 9 ranks
  pub pass : Pass has 1 ranks

choice_passes : (choice cards : List Card) (has : ℕ → Bool) → Tells has cards → Within (times low_ace choice) (times low_ace (filter is_low cards)) → (h : ℕ) → 1 ≤ h → (times low_ace choice h == 1) ≡ true → (has h && nat_le h 8) ≡ true
choice_passes choice cards has tells within h some once =
    let occurs : 0 < times low_ace (filter is_low cards) h = omega (arith, within h, eqb-true (times low_ace choice h) 1 once) in
    let few = low_heights cards h occurs in
    both (has h) (nat_le h 8) ((tells h some few).1 occurs) (le_test h 8 few)
  where
    both : (a b : Bool) → a ≡ true → b ≡ true → (a && b) ≡ true
    both true b one other = other
    both false b one other = one

    le_test : (a b : ℕ) → a ≤ b → nat_le a b ≡ true
    le_test a b le = le-leb a b le

weaken : (has : ℕ → Bool) (from : ℕ) (hs : List ℕ) → Pass (λ h. has h && nat_le h 8) from hs → Pass has from hs
weaken has from [] pass = tt
weaken has from (h ∷ hs) pass = ((and_parts (has h) (nat_le h 8) pass.0).0, pass.1, weaken has from hs pass.2)

low_hand : (has : ℕ → Bool) (cards choice : List Card) → Tells has cards → IsAmong choice (choices 5 cards) → AreHeld 5 choice → is_qualified choice ≡ true → IsLowHand has choice
unfolding occurring
low_hand has cards choice tells among held qualified =
    let parts = and_parts (has_no_pair low_ace choice) (list_all is_low choice) qualified in
    let inside = chosen_filter is_low 5 cards choice (every_all is_low choice parts.1) among in
    let within = choice_within low_ace 5 (filter is_low cards) choice inside in
    let q = λ (h : ℕ). times low_ace choice h == 1 in
    let pass = subst (Pass (λ h. has h && nat_le h 8) 1) (ap (filter q) (sym all_down)) (filter_passes q (λ h. has h && nat_le h 8) (choice_passes choice cards has tells within) 14) in
    let falling = subst (FallingFrom 15) (ap (filter q) (sym all_down)) (filter_falls q 14 15 (omega arith)) in
    record {
      ranks = filter q falling_heights;
      same = ones_only choice parts.0;
      long = five_ranks choice held parts.0;
      falling = falls_within 15 8 (λ h. has h && nat_le h 8) (filter q falling_heights) falling (λ h is. leb-true h 8 (and_parts (has h) (nat_le h 8) is).1) pass;
      pass = weaken has 1 (filter q falling_heights) pass;
    }

-- the points of a hand that qualifies
points_of : (cards : List Card) → is_qualified cards ≡ true → points cards ≡ Some (16 ^ 6 - class_above 0 (ranks_of low_ace cards))
points_of cards qualified =
    let class = best_class cards (and_parts (has_no_pair low_ace cards) (list_all is_low cards) qualified).0 in
    ap (λ (b : Bool). cond b (Some (low_points cards)) None) qualified
    ∙ ap (λ (k : ℕ). Some (16 ^ 6 - class_above k (ranks_of low_ace cards))) class

-- no choice has more points than the lowest ranks make
eight_most : (has : ℕ → Bool) (cards choice : List Card) (less : ℕ) → Tells has cards → IsAmong choice (choices 5 cards) → AreHeld 5 choice → points choice ≡ Some less → (length (lowest has 8 1 5) ≡ 5) × (less ≤ 16 ^ 6 - class_above 0 (lowest has 8 1 5))
eight_most has cards choice less tells among held pointed =
    let qualified = (cond_some (is_qualified choice) (low_points choice) less pointed).0 in
    let hand = low_hand has cards choice tells among held qualified in
    let least = lowest_least has 8 1 5 hand.ranks hand.long hand.falling hand.pass in
    let is = same_Some _ less (sym (points_of choice qualified) ∙ pointed) in
    let same = ap (with_digits 0) hand.same in
    (least.long, omega (arith, is, same, least.least))

all_occur : (has : ℕ → Bool) (cards : List Card) (bound : ℕ) (hs : List ℕ) → Tells has cards → bound ≤ 9 → FallingFrom bound hs → Pass has 1 hs → Occur (times low_ace (filter is_low cards)) hs
all_occur has cards bound [] tells below falling pass = tt
all_occur has cards bound (h ∷ hs) tells below falling pass = ((tells h pass.1 (omega (arith, falling.0))).0 pass.0, all_occur has cards h hs tells (omega (arith, falling.0)) falling.1 pass.2)

-- some choice has the lowest ranks
record HasEight (cards : List Card) (most : ℕ) : Type 0 where
  pub choice : List Card
  pub among : IsAmong choice (choices 5 cards)
  pub pointed : points choice ≡ Some most

none_twice : (a b d : ℕ) → a ≡ 0 → b ≡ 0 → d ≡ 0 → (a == 0 && b == 0 && d == 0) ≡ true
none_twice zero zero zero is_a is_b is_d = refl
none_twice (suc a) b d is_a is_b is_d = absurd (omega arith)
none_twice zero (suc b) d is_a is_b is_d = absurd (omega arith)
none_twice zero zero (suc d) is_a is_b is_d = absurd (omega arith)

eight_reached : (has : ℕ → Bool) (cards : List Card) → AllDifferent cards → Tells has cards → length (lowest has 8 1 5) ≡ 5 → HasEight cards (16 ^ 6 - class_above 0 (lowest has 8 1 5))
eight_reached has cards different tells long =
    let hs = lowest has 8 1 5 in
    let shape = lowest_passes has 8 1 5 in
    let fits = subst (λ (n : ℕ). Fits (times low_ace (filter is_low cards)) (several n 1) hs) long (ones_fit (times low_ace (filter is_low cards)) 9 hs shape.0 (all_occur has cards 9 hs tells (omega arith) shape.0 shape.1)) in
    let found = fitting low_ace IsHeight-low_ace (pattern 0) hs (filter is_low cards) ones_alone.some fits in
    let among = filter_chosen is_low 5 cards found.choice found.among in
    let held = held_chosen 5 cards found.choice different among in
    let all = all_times low_ace IsHeight-low_ace found.choice ∙ held.0 in
    let low = all_every is_low found.choice (every_chosen (Passes is_low) 5 (filter is_low cards) found.choice found.among (every_filter is_low cards)) in
    let at = λ (n : ℕ) (some : 0 < n). ranks_occurring_count low_ace found.choice n ∙ fits_counts low_ace IsHeight-low_ace (times low_ace found.choice) (pattern 0) hs n some (times_of_ranks low_ace found.choice) ones_alone.some found.fits all in
    let none = none_twice (ranks_occurring low_ace found.choice 4) (ranks_occurring low_ace found.choice 3) (ranks_occurring low_ace found.choice 2) (at 4 (omega arith)) (at 3 (omega arith)) (at 2 (omega arith)) in
    let qualified = both (has_no_pair low_ace found.choice) (list_all is_low found.choice) none low in
    let picked = own_picked low_ace IsHeight-low_ace InRange-low_ace found.choice held.1 in
    let own = plain_pattern found.choice (ranks_of low_ace found.choice) (at 4 (omega arith)) (at 3 (omega arith)) (at 2 (omega arith)) (at 1 (omega arith)) picked in
    let exactly = picked_same (times low_ace found.choice) (several 5 1) (ranks_of low_ace found.choice) hs own (falling_picked low_ace IsHeight-low_ace (times low_ace found.choice) 5 9 hs (times_of_ranks low_ace found.choice) found.fits all shape.0) in
    record { choice = found.choice; among = among; pointed = points_of found.choice qualified ∙ ap (λ (l : List ℕ). Some (16 ^ 6 - class_above 0 l)) exactly }
  where
    both : (a b : Bool) → a ≡ true → b ≡ true → (a && b) ≡ true
    both true b one other = other
    both false b one other = one

    plain_pattern : (choice : List Card) (l : List ℕ) → ranks_occurring low_ace choice 4 ≡ 0 → ranks_occurring low_ace choice 3 ≡ 0 → ranks_occurring low_ace choice 2 ≡ 0 → ranks_occurring low_ace choice 1 ≡ 5 → IsPicked (times low_ace choice) (pattern_of low_ace choice) l → IsPicked (times low_ace choice) (several 5 1) l
    plain_pattern choice l four three two one picked =
        subst (λ (n : ℕ). IsPicked (times low_ace choice) (several n 1 ++ []) l) one
        (subst (λ (n : ℕ). IsPicked (times low_ace choice) (several n 2 ++ (several (ranks_occurring low_ace choice 1) 1 ++ [])) l) two
        (subst (λ (n : ℕ). IsPicked (times low_ace choice) (several n 3 ++ (several (ranks_occurring low_ace choice 2) 2 ++ (several (ranks_occurring low_ace choice 1) 1 ++ []))) l) three
        (subst (λ (n : ℕ). IsPicked (times low_ace choice) (several n 4 ++ (several (ranks_occurring low_ace choice 3) 3 ++ (several (ranks_occurring low_ace choice 2) 2 ++ (several (ranks_occurring low_ace choice 1) 1 ++ [])))) l) four picked)))

pub eight_best : (has : ℕ → Bool) (cards : List Card) → AllDifferent cards → Tells has cards → length (lowest has 8 1 5) ≡ 5 → Some (16 ^ 6 - class_above 0 (lowest has 8 1 5)) ≡ greatest points (choices 5 cards)
eight_best has cards different tells long =
    let best = eight_reached has cards different tells long in
    by_says (greatest points (choices 5 cards)) best (says_greatest points (choices 5 cards))
  where
    by_says : (found : Option ℕ) → HasEight cards (16 ^ 6 - class_above 0 (lowest has 8 1 5)) → Says points (choices 5 cards) found → Some (16 ^ 6 - class_above 0 (lowest has 8 1 5)) ≡ found
    by_says None best says = let none = says best.choice best.among in let pointed = best.pointed in absurd (cc)
    by_says (Some most) best says =
        let up = says.most best.choice (16 ^ 6 - class_above 0 (lowest has 8 1 5)) best.among best.pointed in
        let down = (eight_most has cards says.choice most tells says.among (held_chosen 5 cards says.choice different says.among) says.pointed).1 in
        ap (λ (n : ℕ). Some n) (omega arith)

pub eight_none : (has : ℕ → Bool) (cards : List Card) → AllDifferent cards → Tells has cards → length (lowest has 8 1 5) < 5 → None ≡ greatest points (choices 5 cards)
eight_none has cards different tells few = by_says (greatest points (choices 5 cards)) (says_greatest points (choices 5 cards))
  where
    by_says : (found : Option ℕ) → Says points (choices 5 cards) found → None ≡ found
    by_says None says = refl
    by_says (Some most) says =
        let long = (eight_most has cards says.choice most tells says.among (held_chosen 5 cards says.choice different says.among) says.pointed).0 in
        absurd (omega arith)

-- the lowest ranks make a number below the sixth place
pub low_number : (has : ℕ → Bool) (seen : List ℕ) → seen ≡ lowest has 8 1 5 → with_digits 0 seen < 16 ^ 5
low_number has seen is =
    let same = ap (with_digits 0) is in
    omega (arith, same, number_below (lowest has 8 1 5) (few_lowest has 8 1 5) (digits_within 9 (lowest has 8 1 5) (omega arith) (lowest_passes has 8 1 5).0))
