-- The best hand of razz has the first class that can be had, and the lowest ranks of that class.
use Rattle.std.proofs.Common.{◌≡◌, ℕ, zero, suc, ◌+◌, ◌-◌, ◌*◌, ◌^◌, ◌<◌, ◌≤◌, ◌==◌, ◌&&◌, ◌||◌, ◌⊎◌, not, Bool, true, false, cond, List, [], ◌∷◌, ◌++◌, length, filter, sum_by, count_by, Option, Some, None, inl, inr, refl, sym, ◌∙◌, ap, subst, arith, eqb-true, eq-eqb, length-append, append-nil}
use Rattle.std.specs.Prelude.{nat_le}
use Rattle.std.proofs.lemmas.Bool.{and_parts, cases_lt, eqb-false, le-leb, leb-true, ne_eqb}
use Rattle.std.proofs.lemmas.List.Sums.{length-filter}
use Rattle.std.proofs.lemmas.Option.{same_Some}
use Rattle.card_set.specs.declared.card.Card.{Card}
use Rattle.card_set.specs.declared.card.Rank.{Rank}
use Rattle.card_set.specs.declared.card.Rank.TheVariants as ranks
use Rattle.card_set.specs.Classes.{classes_above}
use Rattle.card_set.specs.Different.{AllDifferent}
use Rattle.card_set.specs.Ranks.{falling_heights, low_ace, occurring, ranks_occurring, ranks_of, times}
use Rattle.card_set.specs.UpCards.{low_class}
use Rattle.card_set.proofs.Counted.{IsHeight-low_ace, counted, few_times}
use Rattle.hand_order.specs.Choices.{choices, AreHeld, IsAmong}
use Rattle.hand_order.specs.Digits.{class_above, with_digits}
use Rattle.hand_order.specs.Patterns.{Within}
use Rattle.hand_order.specs.Points.{greatest}
use Rattle.hand_order.proofs.Digits.{number_below}
use Rattle.hand_order.proofs.FallingRanks.{FallingFrom}
use Rattle.hand_order.proofs.FittingChoices.{times_of_ranks}
use Rattle.hand_order.proofs.Greatest.{Says, says_greatest}
use Rattle.hand_order.proofs.Held.{held_chosen}
use Rattle.hand_order.proofs.LowestLaws.{Pass, digits_within}
use Rattle.hand_order.proofs.OwnRanks.{all_down, down}
use Rattle.hand_order.proofs.PlainHands.{choice_within}
use Rattle.hand_order.proofs.SameChoices.{none_chosen, with_first}
use Rattle.hand_order.proofs.Shapes.{by_counts}
use Rattle.hand_order.proofs.Wanted.{wanted_chosen}
use Rattle.card_set.proofs.Sums.{sum_by-plus, sum_by-same, sum_by-cond}
use Rattle.card_set.proofs.Tests.{passes_or_not}
use Rattle.low_rank.specs.Low.{low_points, low_table}
use Rattle.low_rank.specs.Razz.{points}
use Rattle.low_rank.specs.RazzBest.{HasClass, class_ranks, first_ranks, is_free, is_height_of, lowest_ranks, often, often_ranks, seldom, seldom_ranks}
use Rattle.low_rank.proofs.EightBest.{falls_within, filter_falls, filter_passes}
use Rattle.low_rank.proofs.FreeRanks.{both_least, few_ranks, ranks_shape}
use Rattle.std.proofs.lemmas.List.{nil_from_length}
use Rattle.hand_order.proofs.RankDigits.{AreDigits-append}

-- the lists of ranks by how often they occur have the shape of a class
record HasShape (list : ℕ → List ℕ) (class : ℕ) : Type 0 where
  pub within : class ≤ 5
  pub same : list 4 ++ (list 3 ++ (list 2 ++ list 1)) ≡ list (often class) ++ list (seldom class)
  pub first : length (list (often class)) ≡ often_ranks class
  pub others : length (list (seldom class)) ≡ seldom_ranks class
  pub less : (0 < seldom class) × (seldom class < often class)

abbrev Shaped : ℕ → ℕ → ℕ → ℕ → Type 0
Shaped four three two one = (list : ℕ → List ℕ) → length (list 4) ≡ four → length (list 3) ≡ three → length (list 2) ≡ two → length (list 1) ≡ one → 4 * four + 3 * three + 2 * two + one ≡ 5 → HasShape list (classes_above (low_table four three two))

no_four : (list : ℕ → List ℕ) → length (list 4) ≡ 0 → list 4 ++ (list 3 ++ (list 2 ++ list 1)) ≡ list 3 ++ (list 2 ++ list 1)
no_four list none = ap (λ (l : List ℕ). l ++ (list 3 ++ (list 2 ++ list 1))) (nil_from_length (list 4) none)

no_three : (list : ℕ → List ℕ) → length (list 4) ≡ 0 → length (list 3) ≡ 0 → list 4 ++ (list 3 ++ (list 2 ++ list 1)) ≡ list 2 ++ list 1
no_three list four three = no_four list four ∙ ap (λ (l : List ℕ). l ++ (list 2 ++ list 1)) (nil_from_length (list 3) three)

shaped : (four three two one : ℕ) → 4 * four + 3 * three + 2 * two + one ≤ 5 → Shaped four three two one
shaped = by_counts Shaped
    (λ one list four three two single all. record { within = omega arith; same = ap (λ (l : List ℕ). list 4 ++ (l ++ (list 2 ++ list 1))) (nil_from_length (list 3) three) ∙ ap (λ (l : List ℕ). list 4 ++ (l ++ list 1)) (nil_from_length (list 2) two); first = four; others = omega (arith, single); less = (omega arith, omega arith) })
    (λ one list four three two single all. record { within = omega arith; same = no_four list four ∙ ap (λ (l : List ℕ). list 3 ++ (list 2 ++ l)) (nil_from_length (list 1) (omega (arith, single))) ∙ ap (λ (l : List ℕ). list 3 ++ l) (append-nil (list 2)); first = three; others = two; less = (omega arith, omega arith) })
    (λ one list four three two single all. record { within = omega arith; same = no_four list four ∙ ap (λ (l : List ℕ). list 3 ++ (l ++ list 1)) (nil_from_length (list 2) two); first = three; others = omega (arith, single); less = (omega arith, omega arith) })
    (λ one list four three two single all. record { within = omega arith; same = no_three list four three; first = two; others = omega (arith, single); less = (omega arith, omega arith) })
    (λ one list four three two single all. record { within = omega arith; same = no_three list four three; first = two; others = omega (arith, single); less = (omega arith, omega arith) })
    (λ one list four three two single all. record { within = omega arith; same = no_three list four three; first = two; others = omega (arith, single); less = (omega arith, omega arith) })

-- the shape of a hand
hand_shape : (cards : List Card) → AreHeld 5 cards → HasShape (occurring low_ace cards) (low_class cards)
unfolding low_class
hand_shape cards held =
    let all = counted low_ace IsHeight-low_ace cards (few_times low_ace IsHeight-low_ace cards held.1) in
    shaped (ranks_occurring low_ace cards 4) (ranks_occurring low_ace cards 3) (ranks_occurring low_ace cards 2) (ranks_occurring low_ace cards 1) (omega (arith, held.0)) (occurring low_ace cards) refl refl refl refl (omega (arith, held.0))

hand_ranks : (cards : List Card) → AreHeld 5 cards → ranks_of low_ace cards ≡ occurring low_ace cards (often (low_class cards)) ++ occurring low_ace cards (seldom (low_class cards))
unfolding ranks_of
hand_ranks cards held = (hand_shape cards held).same

-- the counts are those of the cards
abbrev pub Counts : (ℕ → ℕ) → List Card → Type 0
Counts T cards = (h : ℕ) → 1 ≤ h → h ≤ 13 → T h ≡ times low_ace cards h

low_range : (rank : Rank) → (1 ≤ low_ace rank) × (low_ace rank ≤ 13)
low_range ranks.Two = (omega arith, omega arith)
low_range ranks.Three = (omega arith, omega arith)
low_range ranks.Four = (omega arith, omega arith)
low_range ranks.Five = (omega arith, omega arith)
low_range ranks.Six = (omega arith, omega arith)
low_range ranks.Seven = (omega arith, omega arith)
low_range ranks.Eight = (omega arith, omega arith)
low_range ranks.Nine = (omega arith, omega arith)
low_range ranks.Ten = (omega arith, omega arith)
low_range ranks.Jack = (omega arith, omega arith)
low_range ranks.Queen = (omega arith, omega arith)
low_range ranks.King = (omega arith, omega arith)
low_range ranks.Ace = (omega arith, omega arith)

-- the heights that occur are those of ranks
occurs_low : (cards : List Card) (h : ℕ) → 0 < times low_ace cards h → (1 ≤ h) × (h ≤ 13)
occurs_low cards h some = let of = times_of_ranks low_ace cards h some in let range = low_range of.0 in (omega (arith, of.1, range.0), omega (arith, of.1, range.1))

falls_occurring : (cards : List Card) (n : ℕ) → 0 < n → FallingFrom 14 (occurring low_ace cards n)
unfolding occurring
falls_occurring cards n some =
    falls_within 15 13 (λ h. times low_ace cards h == n) (filter (λ h. times low_ace cards h == n) falling_heights)
    (subst (λ (l : List ℕ). FallingFrom 15 (filter (λ h. times low_ace cards h == n) l)) (sym all_down) (filter_falls (λ h. times low_ace cards h == n) 14 15 (omega arith)))
    (λ h is. (occurs_low cards h (omega (arith, eqb-true (times low_ace cards h) n is))).1)
    (subst (λ (l : List ℕ). Pass (λ h. times low_ace cards h == n) 1 (filter (λ h. times low_ace cards h == n) l)) (sym all_down) (filter_passes (λ h. times low_ace cards h == n) (λ h. times low_ace cards h == n) (λ h some is. is) 14))

passes_occurring : (cards : List Card) (n : ℕ) (has : ℕ → Bool) → ((h : ℕ) → (times low_ace cards h == n) ≡ true → has h ≡ true) → Pass has 1 (occurring low_ace cards n)
unfolding occurring
passes_occurring cards n has turn =
    subst (λ (l : List ℕ). Pass has 1 (filter (λ h. times low_ace cards h == n) l)) (sym all_down) (filter_passes (λ h. times low_ace cards h == n) has (λ h some is. turn h is) 14)

-- a height that a test leaves out is not found
not_found : (p : ℕ → Bool) (xs : List ℕ) (h : ℕ) → p h ≡ false → is_height_of (filter p xs) h ≡ false
not_found p [] h off = refl
not_found p (x ∷ xs) h off = by_test (p x) refl (not_found p xs h off)
  where
    clash : x ≡ h → p x ≡ true → true ≡ false
    clash same is = sym is ∙ ap p same ∙ off

    by_test : (b : Bool) → p x ≡ b → is_height_of (filter p xs) h ≡ false → is_height_of (cond b (x ∷ filter p xs) (filter p xs)) h ≡ false
    by_test true is rest = ap (λ (b : Bool). b || (is_height_of (filter p xs) h)) (ne_eqb x h (λ same. let bad = clash same is in absurd (cc))) ∙ rest
    by_test false is rest = rest

not_occurring : (cards : List Card) (n h : ℕ) → (times low_ace cards h == n) ≡ false → is_height_of (occurring low_ace cards n) h ≡ false
unfolding occurring
not_occurring cards n h off = not_found (λ k. times low_ace cards k == n) falling_heights h off

-- no hand has a class that the ranks do not make, and none of a class has a smaller number than its
-- lowest ranks
choice_least : (T : ℕ → ℕ) (cards choice : List Card) → Counts T cards → IsAmong choice (choices 5 cards) → AreHeld 5 choice → HasClass T (low_class choice) × (with_digits 0 (class_ranks T (low_class choice)) ≤ with_digits 0 (ranks_of low_ace choice))
choice_least T cards choice counts among held =
    let class = low_class choice in
    let shape = hand_shape choice held in
    let a = occurring low_ace choice (often class) in
    let b = occurring low_ace choice (seldom class) in
    let often_enough : (n h : ℕ) → 0 < n → (times low_ace choice h == n) ≡ true → n ≤ T h = λ n h some is.
    (let at = eqb-true (times low_ace choice h) n is in
    let low = occurs_low choice h (omega arith) in
    omega (arith, counts h low.0 low.1, choice_within low_ace 5 cards choice among h)) in
    let pass_a = passes_occurring choice (often class) (is_free T (often class) []) (λ h is. and_both (nat_le (often class) (T h)) true (le-leb (often class) (T h) (often_enough (often class) h (omega (arith, shape.less.1)) is)) refl) in
    let pass_b = passes_occurring choice (seldom class) (is_free T (seldom class) a) (λ h is. and_both (nat_le (seldom class) (T h)) (not (is_height_of a h)) (le-leb (seldom class) (T h) (often_enough (seldom class) h shape.less.0 is)) (ap not (not_occurring choice (often class) h (ne_eqb (times low_ace choice h) (often class) (λ same. omega (arith, eqb-true (times low_ace choice h) (seldom class) is, shape.less.1)))))) in
    let best = both_least T (often class) (often_ranks class) (seldom class) (seldom_ranks class) a b (omega (arith, shape.less.1)) shape.first shape.others (falls_occurring choice (often class) (omega (arith, shape.less.1))) (falls_occurring choice (seldom class) shape.less.0) pass_a pass_b in
    let same = ap (with_digits 0) (hand_ranks choice held) in
    (best.long, omega (arith, best.least, same))
  where
    and_both : (a b : Bool) → a ≡ true → b ≡ true → (a && b) ≡ true
    and_both true b one other = other
    and_both false b one other = one

-- falling heights are found among all heights
found_down : (p : ℕ → Bool) (b bound : ℕ) (xs : List ℕ) → bound ≤ b + 1 → FallingFrom bound xs → Pass (λ h. true) 1 xs → ((h : ℕ) → h ≤ b → p h ≡ is_height_of xs h) → filter p (down b) ≡ xs
found_down p zero bound [] within falling pass same = refl
found_down p zero bound (x ∷ xs) within falling pass same = absurd (omega (arith, falling.0, pass.1))
found_down p (suc b) bound [] within falling pass same =
    ap (λ (t : Bool). cond t (suc b ∷ filter p (down b)) (filter p (down b))) (same (suc b) (omega arith))
    ∙ found_down p b (b + 1) [] (omega arith) tt tt (λ h few. same h (omega arith))
found_down p (suc b) bound (x ∷ xs) within falling pass same =
    elim (cases_lt x (suc b)) [
      | inl below ↦
          ap (λ (t : Bool). cond t (suc b ∷ filter p (down b)) (filter p (down b))) (same (suc b) (omega arith) ∙ above (suc b) (suc b) (x ∷ xs) (below, falling.1) (omega arith))
          ∙ found_down p b (suc b) (x ∷ xs) (omega arith) (below, falling.1) pass (λ h few. same h (omega arith))
      | inr most ↦
          let here : x ≡ suc b = omega (arith, falling.0) in
          ap (λ (t : Bool). cond t (suc b ∷ filter p (down b)) (filter p (down b))) (same (suc b) (omega arith) ∙ ap (λ (t : Bool). t || (is_height_of xs (suc b))) (eq-eqb x (suc b) here))
          ∙ ap (λ (l : List ℕ). suc b ∷ l) (found_down p b x xs (omega arith) falling.1 pass.2 (λ h few. same h (omega arith) ∙ ap (λ (t : Bool). t || (is_height_of xs h)) (ne_eqb x h (λ at. omega arith))))
          ∙ ap (λ (k : ℕ). k ∷ xs) (sym here)
    ]
  where
    above : (h bound : ℕ) (xs : List ℕ) → FallingFrom bound xs → bound ≤ h → is_height_of xs h ≡ false
    above h bound [] falling high = refl
    above h bound (x ∷ xs) falling high = ap (λ (t : Bool). t || (is_height_of xs h)) (ne_eqb x h (λ at. omega (arith, falling.0))) ∙ above h x xs falling.1 (omega (arith, falling.0))

-- what is among heights that pass a test passes it
one_passes : (has : ℕ → Bool) (bound h : ℕ) (xs : List ℕ) → FallingFrom bound xs → Pass has 1 xs → is_height_of xs h ≡ true → (has h ≡ true) × (1 ≤ h) × (h < bound)
one_passes has bound h [] falling pass is = absurd (cc)
one_passes has bound h (x ∷ xs) falling pass is =
    elim (passes_or_not (x == h)) [
      | inl same ↦ let at = eqb-true x h same in (sym (ap has at) ∙ pass.0, omega (arith, pass.1), omega (arith, falling.0))
      | inr other ↦
          let rest = one_passes has x h xs falling.1 pass.2 (sym (ap (λ (t : Bool). t || (is_height_of xs h)) other) ∙ is) in
          (rest.0, rest.1, omega (arith, rest.2, falling.0))
    ]

-- as many cards of each height as the two groups need
abbrev wanted : ℕ → List ℕ → ℕ → List ℕ → ℕ → ℕ
wanted m a o b h = cond (is_height_of a h) m (cond (is_height_of b h) o 0)

-- two groups of heights that have none in common
record AreApart (a b : List ℕ) : Type 0 where
  pub falls : FallingFrom 14 a
  pub others_fall : FallingFrom 14 b
  pub pass : Pass (λ h. true) 1 a
  pub others_pass : Pass (λ h. true) 1 b
  pub apart : (h : ℕ) → is_height_of b h ≡ true → is_height_of a h ≡ false

all_found : (xs : List ℕ) → FallingFrom 14 xs → Pass (λ h. true) 1 xs → count_by (is_height_of xs) falling_heights ≡ length xs
all_found xs falling pass =
    ap (count_by (is_height_of xs)) all_down
    ∙ sym (length-filter (is_height_of xs) (down 14))
    ∙ ap (length {A = ℕ}) (found_down (is_height_of xs) 14 14 xs (omega arith) falling pass (λ h few. refl))

sum_wanted : (m o : ℕ) (a b : List ℕ) → AreApart a b → sum_by (wanted m a o b) falling_heights ≡ m * length a + o * length b
sum_wanted m o a b is =
    sum_by-same (wanted m a o b) (λ h. cond (is_height_of a h) m 0 + cond (is_height_of b h) o 0) (λ h. by_tests h (is_height_of a h) refl (is_height_of b h) refl) falling_heights
    ∙ sum_by-plus (λ h. cond (is_height_of a h) m 0) (λ h. cond (is_height_of b h) o 0) falling_heights
    ∙ omega (arith, sum_by-cond m (is_height_of a) falling_heights, sum_by-cond o (is_height_of b) falling_heights, ap (λ (n : ℕ). m * n) (all_found a is.falls is.pass), ap (λ (n : ℕ). o * n) (all_found b is.others_fall is.others_pass))
  where
    by_tests : (h : ℕ) (s : Bool) → is_height_of a h ≡ s → (t : Bool) → is_height_of b h ≡ t → cond s m (cond t o 0) ≡ cond s m 0 + cond t o 0
    by_tests h true here true there = let clash = sym here ∙ is.apart h there in absurd (cc)
    by_tests h true here false there = omega arith
    by_tests h false here t there = omega arith

-- which of the two groups occurs this often
abbrev group : ℕ → List ℕ → ℕ → List ℕ → ℕ → List ℕ
group m a o b n = cond (n == m) a (cond (n == o) b [])

occurring_group : (choice : List Card) (m o : ℕ) (a b : List ℕ) (n : ℕ) → AreApart a b → 0 < n → 0 < o → o < m → ((h : ℕ) → times low_ace choice h ≡ wanted m a o b h) → occurring low_ace choice n ≡ group m a o b n
unfolding occurring
occurring_group choice m o a b n is some positive less has =
    ap (filter (λ h. times low_ace choice h == n)) all_down ∙ by_tests (n == m) refl (n == o) refl
  where
    test_of : (h : ℕ) → (times low_ace choice h == n) ≡ (wanted m a o b h == n)
    test_of h = ap (λ (k : ℕ). k == n) (has h)

    first : n ≡ m → (h : ℕ) (s : Bool) → is_height_of a h ≡ s → (t : Bool) → (cond s m (cond t o 0) == n) ≡ s
    first same h true here t = eq-eqb m n (sym same)
    first same h false here true = ne_eqb o n (λ at. omega arith)
    first same h false here false = ne_eqb 0 n (λ at. omega arith)

    second : n ≡ o → (h : ℕ) (s : Bool) → is_height_of a h ≡ s → (t : Bool) → is_height_of b h ≡ t → (cond s m (cond t o 0) == n) ≡ t
    second same h true here true there = let clash = sym here ∙ is.apart h there in absurd (cc)
    second same h true here false there = ne_eqb m n (λ at. omega arith)
    second same h false here true there = eq-eqb o n (sym same)
    second same h false here false there = ne_eqb 0 n (λ at. omega arith)

    neither : (n ≡ m → ⊥) → (n ≡ o → ⊥) → (s t : Bool) → (cond s m (cond t o 0) == n) ≡ false
    neither not_m not_o true t = ne_eqb m n (λ at. not_m (sym at))
    neither not_m not_o false true = ne_eqb o n (λ at. not_o (sym at))
    neither not_m not_o false false = ne_eqb 0 n (λ at. omega arith)

    by_tests : (s : Bool) → (n == m) ≡ s → (t : Bool) → (n == o) ≡ t → filter (λ h. times low_ace choice h == n) (down 14) ≡ cond s a (cond t b [])
    by_tests true here t there = found_down (λ h. times low_ace choice h == n) 14 14 a (omega arith) is.falls is.pass (λ h few. test_of h ∙ first (eqb-true n m here) h (is_height_of a h) refl (is_height_of b h))
    by_tests false here true there = found_down (λ h. times low_ace choice h == n) 14 14 b (omega arith) is.others_fall is.others_pass (λ h few. test_of h ∙ second (eqb-true n o there) h (is_height_of a h) refl (is_height_of b h) refl)
    by_tests false here false there = found_down (λ h. times low_ace choice h == n) 14 14 [] (omega arith) tt tt (λ h few. test_of h ∙ neither (eqb-false n m here) (eqb-false n o there) (is_height_of a h) (is_height_of b h))

-- the two groups are the ranks of the hand, and decide its class
record Makes (class : ℕ) (a b four three two one : List ℕ) : Type 0 where
  pub list : four ++ (three ++ (two ++ one)) ≡ a ++ b
  pub class_is : classes_above (low_table (length four) (length three) (length two)) ≡ class

abbrev grouped : ℕ → List ℕ → List ℕ → ℕ → List ℕ
grouped class a b n = group (often class) a (seldom class) b n

makes : (class : ℕ) → class ≤ 5 → (a b : List ℕ) → length a ≡ often_ranks class → length b ≡ seldom_ranks class → Makes class a b (grouped class a b 4) (grouped class a b 3) (grouped class a b 2) (grouped class a b 1)
makes zero few a b first others = record { list = refl; class_is = ap (λ (n : ℕ). classes_above (low_table 0 0 n)) first }
makes (suc zero) few a b first others = record { list = refl; class_is = ap (λ (n : ℕ). classes_above (low_table 0 0 n)) first }
makes (suc (suc zero)) few a b first others = record { list = refl; class_is = ap (λ (n : ℕ). classes_above (low_table 0 0 n)) first }
makes (suc (suc (suc zero))) few a b first others = record { list = refl; class_is = ap (λ (n : ℕ). classes_above (low_table 0 n 0)) first }
makes (suc (suc (suc (suc zero)))) few a b first others = record {
  list = ap (λ (l : List ℕ). a ++ l) (append-nil b);
  class_is = ap (λ (n : ℕ). classes_above (low_table 0 n (length b))) first ∙ ap (λ (n : ℕ). classes_above (low_table 0 1 n)) others;
}
makes (suc (suc (suc (suc (suc zero))))) few a b first others = record { list = refl; class_is = ap (λ (n : ℕ). classes_above (low_table n 0 0)) first }
makes (suc (suc (suc (suc (suc (suc class)))))) few a b first others = absurd (omega arith)

-- the numbers of a class
record OfClass (class : ℕ) : Type 0 where
  pub positive : 0 < seldom class
  pub less : seldom class < often class
  pub five : often class * often_ranks class + seldom class * seldom_ranks class ≡ 5
  pub few : often_ranks class + seldom_ranks class ≤ 5

of_class : (class : ℕ) → class ≤ 5 → OfClass class
of_class zero few = record { positive = omega arith; less = omega arith; five = refl; few = omega arith }
of_class (suc zero) few = record { positive = omega arith; less = omega arith; five = refl; few = omega arith }
of_class (suc (suc zero)) few = record { positive = omega arith; less = omega arith; five = refl; few = omega arith }
of_class (suc (suc (suc zero))) few = record { positive = omega arith; less = omega arith; five = refl; few = omega arith }
of_class (suc (suc (suc (suc zero)))) few = record { positive = omega arith; less = omega arith; five = refl; few = omega arith }
of_class (suc (suc (suc (suc (suc zero))))) few = record { positive = omega arith; less = omega arith; five = refl; few = omega arith }
of_class (suc (suc (suc (suc (suc (suc class)))))) few = absurd (omega arith)

free_once : (n t : ℕ) (b : Bool) → (nat_le n t && not b) ≡ true → (n ≤ t) × (b ≡ false)
free_once n t b is = let parts = and_parts (nat_le n t) (not b) is in (leb-true n t parts.0, off b parts.1)
  where
    off : (b : Bool) → not b ≡ true → b ≡ false
    off false is = refl
    off true is = absurd (cc)

pass_any : (has : ℕ → Bool) (from : ℕ) (hs : List ℕ) → Pass has from hs → Pass (λ h. true) from hs
pass_any has from [] pass = tt
pass_any has from (h ∷ hs) pass = (refl, pass.1, pass_any has from hs pass.2)

-- a choice with the lowest ranks of a class
record HasRanks (cards : List Card) (class : ℕ) (ranks : List ℕ) : Type 0 where
  pub choice : List Card
  pub among : IsAmong choice (choices 5 cards)
  pub class_is : low_class choice ≡ class
  pub ranks_are : ranks_of low_ace choice ≡ ranks

-- a hand with exactly the ranks of two groups is of their class
class_made : (choice : List Card) (class : ℕ) (a b : List ℕ) → AreApart a b → class ≤ 5 → length a ≡ often_ranks class → length b ≡ seldom_ranks class → ((h : ℕ) → times low_ace choice h ≡ wanted (often class) a (seldom class) b h) → (low_class choice ≡ class) × (ranks_of low_ace choice ≡ a ++ b)
unfolding ranks_of low_class
class_made choice class a b apart few long_a long_b has =
    let facts = of_class class few in
    let at = λ (n : ℕ) (some : 0 < n). occurring_group choice (often class) (seldom class) a b n apart some facts.positive facts.less has in
    let made = makes class few a b long_a long_b in (
      ap (λ (l : List ℕ). classes_above (low_table (length l) (ranks_occurring low_ace choice 3) (ranks_occurring low_ace choice 2))) (at 4 (omega arith))
          ∙ ap (λ (l : List ℕ). classes_above (low_table (length (grouped class a b 4)) (length l) (ranks_occurring low_ace choice 2))) (at 3 (omega arith))
          ∙ ap (λ (l : List ℕ). classes_above (low_table (length (grouped class a b 4)) (length (grouped class a b 3)) (length l))) (at 2 (omega arith))
          ∙ made.class_is,
      ap (λ (l : List ℕ). l ++ (occurring low_ace choice 3 ++ (occurring low_ace choice 2 ++ occurring low_ace choice 1))) (at 4 (omega arith))
          ∙ ap (λ (l : List ℕ). grouped class a b 4 ++ (l ++ (occurring low_ace choice 2 ++ occurring low_ace choice 1))) (at 3 (omega arith))
          ∙ ap (λ (l : List ℕ). grouped class a b 4 ++ (grouped class a b 3 ++ (l ++ occurring low_ace choice 1))) (at 2 (omega arith))
          ∙ ap (λ (l : List ℕ). grouped class a b 4 ++ (grouped class a b 3 ++ (grouped class a b 2 ++ l))) (at 1 (omega arith))
          ∙ made.list,
    )

class_reached : (T : ℕ → ℕ) (cards : List Card) (class : ℕ) → Counts T cards → class ≤ 5 → HasClass T class → HasRanks cards class (class_ranks T class)
class_reached T cards class counts few has =
    let m = often class in
    let o = seldom class in
    let a = first_ranks T m (often_ranks class) in
    let b = lowest_ranks (is_free T o a) (seldom_ranks class) in
    let facts = of_class class few in
    let size = length-append a b in
    let few_a = few_ranks (is_free T m []) (often_ranks class) in
    let few_b = few_ranks (is_free T o a) (seldom_ranks class) in
    let long_a : length a ≡ often_ranks class = omega (arith, size, has, few_a, few_b) in
    let long_b : length b ≡ seldom_ranks class = omega (arith, size, has, few_a, few_b) in
    let shape_a = ranks_shape (is_free T m []) (often_ranks class) in
    let shape_b = ranks_shape (is_free T o a) (seldom_ranks class) in
    let apart : AreApart a b = record {
      falls = shape_a.0;
      others_fall = shape_b.0;
      pass = pass_any (is_free T m []) 1 a shape_a.1;
      others_pass = pass_any (is_free T o a) 1 b shape_b.1;
      apart = λ h is. (free_once o (T h) (is_height_of a h) (one_passes (is_free T o a) 14 h b shape_b.0 shape_b.1 is).0).1;
    } in
    let within : Within (wanted m a o b) (times low_ace cards) = λ h. enough h m o a b (is_height_of a h) refl (is_height_of b h) refl
    (λ is. let one = one_passes (is_free T m []) 14 h a shape_a.0 shape_a.1 is in omega (arith, (free_once m (T h) false one.0).0, counts h one.1 (omega (arith, one.2))))
    (λ is. let one = one_passes (is_free T o a) 14 h b shape_b.0 shape_b.1 is in omega (arith, (free_once o (T h) (is_height_of a h) one.0).0, counts h one.1 (omega (arith, one.2)))) in
    let sum = sum_wanted m o a b apart ∙ ap (λ (n : ℕ). m * n + o * length b) long_a ∙ ap (λ (n : ℕ). m * often_ranks class + o * n) long_b ∙ facts.five in
    let found = wanted_chosen low_ace IsHeight-low_ace cards (wanted m a o b) 5 within sum in
    let made = class_made found.choice class a b apart few long_a long_b found.has in
    record { choice = found.choice; among = found.among; class_is = made.0; ranks_are = made.1 }
  where
    enough : (h m o : ℕ) (a b : List ℕ) (s : Bool) → is_height_of a h ≡ s → (t : Bool) → is_height_of b h ≡ t → (is_height_of a h ≡ true → m ≤ times low_ace cards h) → (is_height_of b h ≡ true → o ≤ times low_ace cards h) → cond s m (cond t o 0) ≤ times low_ace cards h
    enough h m o a b true here t there first second = first here
    enough h m o a b false here true there first second = second there
    enough h m o a b false here false there first second = omega arith

-- enough cards have a choice
some_choice : (n : ℕ) (cards : List Card) → n ≤ length cards → (choice : List Card) × IsAmong choice (choices n cards)
some_choice zero cards enough = ([], none_chosen cards)
some_choice (suc n) [] enough = absurd (omega arith)
some_choice (suc n) (card ∷ rest) enough = let more = some_choice n rest (omega arith) in (card ∷ more.0, with_first n card rest more.0 more.1)

-- the lowest ranks make a number below the sixth place
pub class_number : (T : ℕ → ℕ) (class : ℕ) → class ≤ 5 → with_digits 0 (class_ranks T class) < 16 ^ 5
class_number T class few =
    let a = first_ranks T (often class) (often_ranks class) in
    let b = lowest_ranks (is_free T (seldom class) a) (seldom_ranks class) in
    let few_a = few_ranks (is_free T (often class) []) (often_ranks class) in
    let few_b = few_ranks (is_free T (seldom class) a) (seldom_ranks class) in
    number_below (a ++ b) (omega (arith, length-append a b, few_a, few_b, (of_class class few).few))
    (AreDigits-append a b (digits_within 14 a (omega arith) (ranks_shape (is_free T (often class) []) (often_ranks class)).0) (digits_within 14 b (omega arith) (ranks_shape (is_free T (seldom class) a) (seldom_ranks class)).0))

-- the points of the best class are the greatest
pub razz_best : (T : ℕ → ℕ) (cards : List Card) (class : ℕ) → AllDifferent cards → 5 ≤ length cards → Counts T cards → class ≤ 5 → ((better : ℕ) → 0 ≤ better → better < class → HasClass T better → ⊥) → ((class ≡ 5) ⊎ HasClass T class) → Some (16 ^ 6 - class_above class (class_ranks T class)) ≡ greatest points (choices 5 cards)
razz_best T cards class different enough counts few none made =
    by_says (greatest points (choices 5 cards)) (class_reached T cards class counts few has) (says_greatest points (choices 5 cards))
  where
    held_of : (choice : List Card) → IsAmong choice (choices 5 cards) → AreHeld 5 choice
    held_of choice among = held_chosen 5 cards choice different among

    not_better : (choice : List Card) → IsAmong choice (choices 5 cards) → class ≤ low_class choice
    not_better choice among =
        let least = choice_least T cards choice counts among (held_of choice among) in
        elim (cases_lt (low_class choice) class) [ inl better ↦ absurd (none (low_class choice) (omega arith) better least.0) | inr worse ↦ worse ]

    has : HasClass T class
    has = elim made [
      | inl last ↦
          let some = some_choice 5 cards enough in
          let least = choice_least T cards some.0 counts some.1 (held_of some.0 some.1) in
          let same : low_class some.0 ≡ class = omega (arith, not_better some.0 some.1, (hand_shape some.0 (held_of some.0 some.1)).within) in
          subst (HasClass T) same least.0
      | inr made ↦ made
    ]

    most_of : (choice : List Card) → IsAmong choice (choices 5 cards) → low_points choice ≤ 16 ^ 6 - class_above class (class_ranks T class)
    most_of choice among =
        let least = choice_least T cards choice counts among (held_of choice among) in
        elim (cases_lt class (low_class choice)) [
          | inl worse ↦ omega (arith, class_number T class few)
          | inr best ↦
              let same : low_class choice ≡ class = omega (arith, not_better choice among) in
              let number = ap (λ (k : ℕ). with_digits 0 (class_ranks T k)) same in
              omega (arith, least.1, number)
        ]

    by_says : (found : Option ℕ) → HasRanks cards class (class_ranks T class) → Says points (choices 5 cards) found → Some (16 ^ 6 - class_above class (class_ranks T class)) ≡ found
    by_says None best says = let none = says best.choice best.among in absurd (cc)
    by_says (Some most) best says =
        let is = ap (λ (k : ℕ). Some (16 ^ 6 - class_above k (ranks_of low_ace best.choice))) best.class_is ∙ ap (λ (l : List ℕ). Some (16 ^ 6 - class_above class l)) best.ranks_are in
        let up = says.most best.choice (16 ^ 6 - class_above class (class_ranks T class)) best.among is in
        let down = most_of says.choice says.among in
        let value = same_Some _ most says.pointed in
        ap (λ (n : ℕ). Some n) (omega arith)

-- ranks that are read make a number below the sixth place
pub seen_number : (T : ℕ → ℕ) (class : ℕ) (ranks seen : List ℕ) → class ≤ 5 → seen ≡ ranks → ranks ≡ class_ranks T class → with_digits 0 seen < 16 ^ 5
seen_number T class ranks seen few is_seen is = let same = ap (with_digits 0) (is_seen ∙ is) in omega (arith, same, class_number T class few)
