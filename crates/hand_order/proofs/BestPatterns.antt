-- The best pattern is read from the masks of the heights that occur at least once, twice, three
-- times and four times.
use Rattle.std.proofs.Common.{◌≡◌, ◌↔◌, ℕ, suc, ◌+◌, ◌-◌, ◌*◌, ◌^◌, ◌%◌, ◌<◌, ◌≤◌, ◌==◌, Bool, true, false, cond, List, [], ◌∷◌, inl, inr, refl, sym, ◌∙◌, ap, subst, arith, eqb-true, bit_and, w16}
use Rattle.std.specs.Int.{bit_at, bit_not}
use Rattle.std.proofs.lemmas.Bool.{cases_lt, eqb-false}
use Rattle.std.proofs.lemmas.Nat.{and_le_l}
use Rattle.std.proofs.lemmas.Nat.Bits.{bit_at-zero}
use Rattle.card_set.specs.Ranks.{falling_heights, high_ace}
use Rattle.card_set.proofs.Counted.{IsHeight-high_ace}
use Rattle.hand_order.proofs.Digits.{AreDigits, with_digits-cons}
use Rattle.hand_order.specs.Digits.{with_digits}
use Rattle.hand_order.specs.Tops.{highest, tops, Shows}
use Rattle.hand_order.proofs.Fits.{picked_fits}
use Rattle.hand_order.proofs.FittingChoices.{without_of_ranks, sum_without}
use Rattle.hand_order.proofs.OwnRanks.{InRange-high_ace}
use Rattle.hand_order.proofs.PlainHands.{pattern_cases, four_and_one, three_and_two, three_alone, two_and_two, two_alone, ones_alone}
use Rattle.hand_order.proofs.ShownRanks.{top_shown, tops_picked}
use Rattle.hand_order.specs.Patterns.{without, Fits, IsPicked, OfRanks, AreSome, pattern, IsPattern, IsBestNumber, IsBestPattern, AreCounts}
use Rattle.card_set.proofs.Numbers.{positive}
use Rattle.card_set.proofs.Sums.{once_sum, some_sum}
use Rattle.card_set.proofs.Tests.{passes_or_not}

-- a mask without any bit shows nothing
pub nothing_shown : (mask n h : ℕ) (T : ℕ → ℕ) → Shows mask n T → mask ≡ 0 → n ≤ T h → ⊥
nothing_shown mask n h T shows is often =
    let past = shows.past h often in
    let back : (h - 2) + 2 ≡ h = omega arith in
    let set = (shows.each (h - 2)).1 (subst (λ (k : ℕ). n ≤ T k) (sym back) often) in
    let off = ap (λ (m : ℕ). bit_at m (h - 2)) is ∙ bit_at-zero (h - 2) in
    absurd (omega arith)

-- nor is there a second one if the others show none
pub no_second : (more n m a x y : ℕ) (T : ℕ → ℕ) → Shows more m (without T a) → more ≡ 0 → 0 < m → m ≤ n → n ≤ T x → m ≤ without T x y → ⊥
no_second more n m a x y T shows is positive fewer often other =
    elim (passes_or_not (a == x)) [
      | inl same ↦ nothing_shown more m y (without T a) shows is (subst (λ (k : ℕ). m ≤ without T k y) (sym (eqb-true a x same)) other)
      | inr apart ↦ let here = ap (λ (b : Bool). cond b 0 (T x)) apart in nothing_shown more m x (without T a) shows is (omega arith)
    ]

-- if no pair is left, each of the others occurs once
others_once : (more a : ℕ) (T : ℕ → ℕ) → Shows more 2 (without T a) → more ≡ 0 → (h : ℕ) → without T a h ≤ 1
others_once more a T shows is h = elim (cases_lt 1 (without T a h)) [ inl often ↦ absurd (nothing_shown more 2 h (without T a) shows is (omega arith)) | inr once ↦ once ]

without-few : (T : ℕ → ℕ) (a : ℕ) → ((h : ℕ) → T h ≤ 4) → (h : ℕ) → without T a h ≤ 4
without-few T a few h = by_test (a == h)
  where
    by_test : (b : Bool) → cond b 0 (T h) ≤ 4
    by_test true = omega arith
    by_test false = few h

pub digits_of : (T : ℕ → ℕ) (ns hs : List ℕ) → OfRanks high_ace T → AreSome ns → Fits T ns hs → AreDigits hs
digits_of T [] [] of some fits = tt
digits_of T [] (h ∷ hs) of some fits = absurd fits
digits_of T (n ∷ ns) [] of some fits = absurd fits
digits_of T (n ∷ ns) (h ∷ hs) of some fits =
    let rank = of h (omega (arith, fits.0, some.0)) in
    (omega (arith, rank.1, (InRange-high_ace rank.0).1), digits_of (without T h) ns hs (without_of_ranks high_ace T h of) some.1 fits.1)

pub picked_digits : (T : ℕ → ℕ) (ns hs : List ℕ) → OfRanks high_ace T → AreSome ns → IsPicked T ns hs → AreDigits hs
picked_digits T ns hs of some picked = digits_of T ns hs of some (picked_fits T ns hs picked)

-- what follows if there is no four of a kind
no_four : (four : ℕ) (T : ℕ → ℕ) (ks : List ℕ) → Shows four 4 T → four ≡ 0 → Fits T (4 ∷ 1 ∷ []) ks → ⊥
no_four four T [] shows is fits = fits
no_four four T (x ∷ ks) shows is fits = nothing_shown four 4 x T shows is fits.0

no_three : (three : ℕ) (T : ℕ → ℕ) (ns ks : List ℕ) → Shows three 3 T → three ≡ 0 → Fits T (3 ∷ ns) ks → ⊥
no_three three T ns [] shows is fits = fits
no_three three T ns (x ∷ ks) shows is fits = nothing_shown three 3 x T shows is fits.0

no_two : (two : ℕ) (T : ℕ → ℕ) (ns ks : List ℕ) → Shows two 2 T → two ≡ 0 → Fits T (2 ∷ ns) ks → ⊥
no_two two T ns [] shows is fits = fits
no_two two T ns (x ∷ ks) shows is fits = nothing_shown two 2 x T shows is fits.0

no_pair_more : (more a n : ℕ) (T : ℕ → ℕ) (ns ks : List ℕ) → 2 ≤ n → Shows more 2 (without T a) → more ≡ 0 → Fits T (n ∷ 2 ∷ ns) ks → ⊥
no_pair_more more a n T ns [] large shows is fits = fits
no_pair_more more a n T ns (x ∷ []) large shows is fits = fits.1
no_pair_more more a n T ns (x ∷ y ∷ ks) large shows is fits = no_second more n 2 a x y T shows is (omega arith) large fits.0 fits.1.0

-- four of a kind
pub best_four : (all four rest : ℕ) (T : ℕ → ℕ) → AreCounts T → Shows four 4 T → 0 < four → Shows rest 1 (without T (highest four + 2)) → IsBestPattern T 7 ((highest four + 2) ∷ tops 1 rest)
best_four all four rest T counts shows some rest_shows =
    let a = highest four + 2 in
    let shown = top_shown four 4 T shows some in
    let split = sum_without high_ace IsHeight-high_ace T a (counts.ranked a (omega (arith, shown.0))) in
    let kicker = tops_picked high_ace IsHeight-high_ace (without T a) 1 rest (without_of_ranks high_ace T a counts.ranked) rest_shows (omega (arith, split, counts.five, counts.four a, some_sum (without T a) falling_heights (without-few T a counts.four))) in
    let picked : IsPicked T (pattern 7) (a ∷ tops 1 rest) = (shown.0, shown.1, kicker) in
    record {
      kind = four_and_one;
      picked = picked;
      digits = picked_digits T (pattern 7) (a ∷ tops 1 rest) counts.ranked four_and_one.some picked;
      none = λ j ks kind above fits. elim (pattern_cases j kind) [ inl is ↦ omega arith | inr l ↦ elim l [ inl is ↦ omega arith | inr l ↦ elim l [ inl is ↦ omega arith | inr l ↦ elim l [ inl is ↦ omega arith | inr l ↦ elim l [ inl is ↦ omega arith | inr is ↦ omega arith ] ] ] ] ];
    }

-- a mask without a bit shows the others
pub cleared_shows : (mask rest place n : ℕ) (T : ℕ → ℕ) → Shows mask n T → 0 < n → rest < 2 ^ 16 → ((k : ℕ) → bit_at rest k ≡ cond (place == k) 0 (bit_at mask k)) → Shows rest n (without T (place + 2))
cleared_shows mask rest place n T shows positive small bits = record {
  each = λ k. each k (place == k) refl (place + 2 == k + 2) refl;
  past = λ h often. past h (place + 2 == h) often;
  small = small;
}
  where
    past : (h : ℕ) (b : Bool) → n ≤ cond b 0 (T h) → 2 ≤ h
    past h true often = absurd (omega arith)
    past h false often = shows.past h often

    each : (k : ℕ) (a : Bool) → (place == k) ≡ a → (b : Bool) → (place + 2 == k + 2) ≡ b → (bit_at rest k ≡ 1) ↔ (n ≤ cond b 0 (T (k + 2)))
    each k true is true other =
        let off = bits k ∙ ap (λ (t : Bool). cond t 0 (bit_at mask k)) is in
        (λ set. absurd (omega (arith, off)), λ often. absurd (omega arith))
    each k true is false other = absurd (eqb-false (place + 2) (k + 2) other (omega (arith, eqb-true place k is)))
    each k false is true other = absurd (eqb-false place k is (omega (arith, eqb-true (place + 2) (k + 2) other)))
    each k false is false other =
        let same = bits k ∙ ap (λ (t : Bool). cond t 0 (bit_at mask k)) is in
        (λ set. (shows.each k).0 (sym same ∙ set), λ often. same ∙ (shows.each k).1 often)

-- no higher pattern fits, if none of those above fits
none_by : (T : ℕ → ℕ) (k : ℕ) → (k < 7 → (ks : List ℕ) → Fits T (pattern 7) ks → ⊥) → (k < 6 → (ks : List ℕ) → Fits T (pattern 6) ks → ⊥) → (k < 3 → (ks : List ℕ) → Fits T (pattern 3) ks → ⊥) → (k < 2 → (ks : List ℕ) → Fits T (pattern 2) ks → ⊥) → (k < 1 → (ks : List ℕ) → Fits T (pattern 1) ks → ⊥) → (j : ℕ) (ks : List ℕ) → IsPattern j → k < j → Fits T (pattern j) ks → ⊥
none_by T k no7 no6 no3 no2 no1 j ks kind above fits =
    elim (pattern_cases j kind) [
      | inl is ↦ no7 (omega arith) ks (subst (λ (m : ℕ). Fits T (pattern m) ks) is fits)
      | inr l ↦ elim l [
        | inl is ↦ no6 (omega arith) ks (subst (λ (m : ℕ). Fits T (pattern m) ks) is fits)
        | inr l ↦ elim l [
          | inl is ↦ no3 (omega arith) ks (subst (λ (m : ℕ). Fits T (pattern m) ks) is fits)
          | inr l ↦ elim l [
            | inl is ↦ no2 (omega arith) ks (subst (λ (m : ℕ). Fits T (pattern m) ks) is fits)
            | inr l ↦ elim l [ inl is ↦ no1 (omega arith) ks (subst (λ (m : ℕ). Fits T (pattern m) ks) is fits) | inr is ↦ omega arith ]
          ]
        ]
      ]
    ]

at_most : (mask n h : ℕ) (T : ℕ → ℕ) → Shows mask (suc n) T → mask ≡ 0 → T h ≤ n
at_most mask n h T shows is = elim (cases_lt n (T h)) [ inl often ↦ absurd (nothing_shown mask (suc n) h T shows is (omega arith)) | inr few ↦ few ]

-- a full house
pub best_full : (four three more : ℕ) (T : ℕ → ℕ) → AreCounts T → Shows four 4 T → four ≡ 0 → Shows three 3 T → 0 < three → Shows more 2 (without T (highest three + 2)) → 0 < more → IsBestPattern T 6 ((highest three + 2) ∷ (highest more + 2) ∷ [])
best_full four three more T counts four_shows no_quads shows some more_shows some_more =
    let a = highest three + 2 in
    let shown = top_shown three 3 T shows some in
    let second = top_shown more 2 (without T a) more_shows some_more in
    let picked : IsPicked T (pattern 6) (a ∷ (highest more + 2) ∷ []) = (shown.0, shown.1, (second.0, second.1, tt)) in
    record {
      kind = three_and_two;
      picked = picked;
      digits = picked_digits T (pattern 6) (a ∷ (highest more + 2) ∷ []) counts.ranked three_and_two.some picked;
      none = none_by T 6 (λ less ks fits. no_four four T ks four_shows no_quads fits) (λ less. absurd (omega arith)) (λ less. absurd (omega arith)) (λ less. absurd (omega arith)) (λ less. absurd (omega arith));
    }

-- three of a kind
pub best_three : (four three more rest : ℕ) (T : ℕ → ℕ) → AreCounts T → Shows four 4 T → four ≡ 0 → Shows three 3 T → 0 < three → Shows more 2 (without T (highest three + 2)) → more ≡ 0 → Shows rest 1 (without T (highest three + 2)) → IsBestPattern T 3 ((highest three + 2) ∷ tops 2 rest)
best_three four three more rest T counts four_shows no_quads shows some more_shows no_more rest_shows =
    let a = highest three + 2 in
    let shown = top_shown three 3 T shows some in
    let split = sum_without high_ace IsHeight-high_ace T a (counts.ranked a (omega (arith, shown.0))) in
    let kickers = tops_picked high_ace IsHeight-high_ace (without T a) 2 rest (without_of_ranks high_ace T a counts.ranked) rest_shows (omega (arith, split, counts.five, at_most four 3 a T four_shows no_quads, once_sum (without T a) falling_heights (others_once more a T more_shows no_more))) in
    let picked : IsPicked T (pattern 3) (a ∷ tops 2 rest) = (shown.0, shown.1, kickers) in
    record {
      kind = three_alone;
      picked = picked;
      digits = picked_digits T (pattern 3) (a ∷ tops 2 rest) counts.ranked three_alone.some picked;
      none = none_by T 3 (λ less ks fits. no_four four T ks four_shows no_quads fits) (λ less ks fits. no_pair_more more a 3 T [] ks (omega arith) more_shows no_more fits) (λ less. absurd (omega arith)) (λ less. absurd (omega arith)) (λ less. absurd (omega arith));
    }

-- two pair
pub best_pairs : (four three two more rest : ℕ) (T : ℕ → ℕ) → AreCounts T → Shows four 4 T → four ≡ 0 → Shows three 3 T → three ≡ 0 → Shows two 2 T → 0 < two → Shows more 2 (without T (highest two + 2)) → 0 < more → Shows rest 1 (without (without T (highest two + 2)) (highest more + 2)) → IsBestPattern T 2 ((highest two + 2) ∷ (highest more + 2) ∷ tops 1 rest)
best_pairs four three two more rest T counts four_shows no_quads three_shows none shows some more_shows some_more rest_shows =
    let a = highest two + 2 in
    let b = highest more + 2 in
    let shown = top_shown two 2 T shows some in
    let second = top_shown more 2 (without T a) more_shows some_more in
    let left = without_of_ranks high_ace T a counts.ranked in
    let split = sum_without high_ace IsHeight-high_ace T a (counts.ranked a (omega (arith, shown.0))) in
    let again = sum_without high_ace IsHeight-high_ace (without T a) b (left b (omega (arith, second.0))) in
    let twice : without T a b ≤ 2 = under a b (a == b) in
    let kicker = tops_picked high_ace IsHeight-high_ace (without (without T a) b) 1 rest (without_of_ranks high_ace (without T a) b left) rest_shows (omega (arith, split, again, twice, counts.five, at_most three 2 a T three_shows none, some_sum (without (without T a) b) falling_heights (without-few (without T a) b (without-few T a counts.four)))) in
    let picked : IsPicked T (pattern 2) (a ∷ b ∷ tops 1 rest) = (shown.0, shown.1, (second.0, second.1, kicker)) in
    record {
      kind = two_and_two;
      picked = picked;
      digits = picked_digits T (pattern 2) (a ∷ b ∷ tops 1 rest) counts.ranked two_and_two.some picked;
      none = none_by T 2 (λ less ks fits. no_four four T ks four_shows no_quads fits) (λ less ks fits. no_three three T (2 ∷ []) ks three_shows none fits) (λ less ks fits. no_three three T (1 ∷ 1 ∷ []) ks three_shows none fits) (λ less. absurd (omega arith)) (λ less. absurd (omega arith));
    }
  where
    under : (a b : ℕ) (t : Bool) → cond t 0 (T b) ≤ 2
    under a b true = omega arith
    under a b false = at_most three 2 b T three_shows none

-- one pair
pub best_pair : (four three two more rest : ℕ) (T : ℕ → ℕ) → AreCounts T → Shows four 4 T → four ≡ 0 → Shows three 3 T → three ≡ 0 → Shows two 2 T → 0 < two → Shows more 2 (without T (highest two + 2)) → more ≡ 0 → Shows rest 1 (without T (highest two + 2)) → IsBestPattern T 1 ((highest two + 2) ∷ tops 3 rest)
best_pair four three two more rest T counts four_shows no_quads three_shows none shows some more_shows no_more rest_shows =
    let a = highest two + 2 in
    let shown = top_shown two 2 T shows some in
    let split = sum_without high_ace IsHeight-high_ace T a (counts.ranked a (omega (arith, shown.0))) in
    let kickers = tops_picked high_ace IsHeight-high_ace (without T a) 3 rest (without_of_ranks high_ace T a counts.ranked) rest_shows (omega (arith, split, counts.five, at_most three 2 a T three_shows none, once_sum (without T a) falling_heights (others_once more a T more_shows no_more))) in
    let picked : IsPicked T (pattern 1) (a ∷ tops 3 rest) = (shown.0, shown.1, kickers) in
    record {
      kind = two_alone;
      picked = picked;
      digits = picked_digits T (pattern 1) (a ∷ tops 3 rest) counts.ranked two_alone.some picked;
      none = none_by T 1 (λ less ks fits. no_four four T ks four_shows no_quads fits) (λ less ks fits. no_three three T (2 ∷ []) ks three_shows none fits) (λ less ks fits. no_three three T (1 ∷ 1 ∷ []) ks three_shows none fits) (λ less ks fits. no_pair_more more a 2 T (1 ∷ []) ks (omega arith) more_shows no_more fits) (λ less. absurd (omega arith));
    }

-- no pair
pub best_ones : (four three two all : ℕ) (T : ℕ → ℕ) → AreCounts T → Shows four 4 T → four ≡ 0 → Shows three 3 T → three ≡ 0 → Shows two 2 T → two ≡ 0 → Shows all 1 T → IsBestPattern T 0 (tops 5 all)
best_ones four three two all T counts four_shows no_quads three_shows none two_shows nil shows =
    let picked : IsPicked T (pattern 0) (tops 5 all) = tops_picked high_ace IsHeight-high_ace T 5 all counts.ranked shows (omega (arith, counts.five, once_sum T falling_heights (λ h. at_most two 1 h T two_shows nil))) in
    record {
      kind = ones_alone;
      picked = picked;
      digits = picked_digits T (pattern 0) (tops 5 all) counts.ranked ones_alone.some picked;
      none = none_by T 0 (λ less ks fits. no_four four T ks four_shows no_quads fits) (λ less ks fits. no_three three T (2 ∷ []) ks three_shows none fits) (λ less ks fits. no_three three T (1 ∷ 1 ∷ []) ks three_shows none fits) (λ less ks fits. no_two two T (2 ∷ 1 ∷ []) ks two_shows nil fits) (λ less ks fits. no_two two T (1 ∷ 1 ∷ 1 ∷ []) ks two_shows nil fits);
    }

-- a mask without a bit that was found shows the others
pub cleared_at : (mask rest place n other : ℕ) (T : ℕ → ℕ) → Shows mask n T → 0 < n → place ≡ other → rest ≡ bit_and mask (bit_not w16 (1 * 2 ^ place % 2 ^ 16)) → ((k : ℕ) → bit_at rest k ≡ cond (place == k) 0 (bit_at mask k)) → Shows rest n (without T (other + 2))
cleared_at mask rest place n other T shows some is number bits =
    let small : rest < 2 ^ 16 = omega (arith, number, and_le_l mask (bit_not w16 (1 * 2 ^ place % 2 ^ 16)), shows.small) in
    subst (λ (p : ℕ). Shows rest n (without T (p + 2))) is (cleared_shows mask rest place n T shows some small bits)

-- a best pattern is written as a number: its first height, and then the others
pub written_one : (T : ℕ → ℕ) (class place other number : ℕ) (more : List ℕ) → place ≡ other → number ≡ with_digits (place + 2) more → IsBestPattern T class ((other + 2) ∷ more) → IsBestNumber T class number
written_one T class place other number more is written best = record {
  hs = (other + 2) ∷ more;
  best = best;
  written = written ∙ ap (λ (v : ℕ). with_digits v more) {y = 0 * 16 + (other + 2)} (omega (arith, is)) ∙ sym (with_digits-cons 0 (other + 2) more);
}

-- and its first two heights, and then the others
pub written_two : (T : ℕ → ℕ) (class first one second two number : ℕ) (more : List ℕ) → first ≡ one → second ≡ two → number ≡ with_digits ((first + 2) * 16 + second + 2) more → IsBestPattern T class ((one + 2) ∷ (two + 2) ∷ more) → IsBestNumber T class number
written_two T class first one second two number more is is_second written best = record {
  hs = (one + 2) ∷ (two + 2) ∷ more;
  best = best;
  written =
      written
      ∙ ap (λ (v : ℕ). with_digits v more) {y = (0 * 16 + (one + 2)) * 16 + (two + 2)} (omega (arith, is, is_second))
      ∙ sym (with_digits-cons (0 * 16 + (one + 2)) (two + 2) more)
      ∙ sym (with_digits-cons 0 (one + 2) ((two + 2) ∷ more));
}
