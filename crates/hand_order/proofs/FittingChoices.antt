-- If heights fit the counts of cards, they fit those of a choice of as many cards as the numbers
-- add up to.
use Rattle.std.proofs.Common.{◌≡◌, ℕ, ◌+◌, ◌*◌, ◌<◌, ◌≤◌, ◌==◌, Bool, true, false, cond, List, [], ◌∷◌, sum_by, count_by, inl, inr, refl, sym, ◌∙◌, ap, subst, arith, eqb-true}
use Rattle.std.proofs.lemmas.Bool.{ne_eqb}
use Rattle.std.proofs.lemmas.List.Sums.{sum_by-cons}
use Rattle.card_set.specs.declared.card.Card.{Card}
use Rattle.card_set.specs.declared.card.Rank.{Rank}
use Rattle.card_set.specs.Ranks.{falling_heights, times}
use Rattle.card_set.proofs.Counted.{IsHeight, times-none, times-cons}
use Rattle.hand_order.specs.Choices.{choices, IsAmong}
use Rattle.hand_order.proofs.Fits.{needs, fits_needs, needs_fit, fits-within}
use Rattle.hand_order.proofs.Wanted.{wanted_chosen}
use Rattle.hand_order.specs.Patterns.{without, Fits, IsOfRank, OfRanks, total, AreSome, among_numbers}
use Rattle.card_set.proofs.Counting.{count-le-sum}
use Rattle.card_set.proofs.Sums.{sum_by-at, sum_by-none, sum_by-plus, sum_by-same}
use Rattle.card_set.proofs.Tests.{passes_or_not}

pub times_of_ranks : (height : Rank → ℕ) (cards : List Card) → OfRanks height (times height cards)
times_of_ranks height [] h some = absurd (omega (arith, times-none height h))
times_of_ranks height (card ∷ rest) h some =
    elim (passes_or_not (height card.rank == h)) [
      | inl is ↦ (card.rank, eqb-true (height card.rank) h is)
      | inr other ↦ let no = ap (λ (b : Bool). cond {A = ℕ} b 1 0) other in times_of_ranks height rest h (omega (arith, times-cons height card rest h))
    ]

pub without_of_ranks : (height : Rank → ℕ) (T : ℕ → ℕ) (h : ℕ) → OfRanks height T → OfRanks height (without T h)
without_of_ranks height T h of k some = of k (by_test (h == k) some)
  where
    by_test : (b : Bool) → 0 < cond b 0 (T k) → 0 < T k
    by_test true some = absurd (omega arith)
    by_test false some = some

-- a sum is its term at one height, plus the others
sum_by-split : (T : ℕ → ℕ) (h : ℕ) (ks : List ℕ) → sum_by T ks ≡ T h * sum_by (λ k. cond (h == k) 1 0) ks + sum_by (without T h) ks
sum_by-split T h [] = omega arith
sum_by-split T h (k ∷ ks) =
    omega (arith, sum_by-cons T k ks, ap (λ (m : ℕ). T h * m) (sum_by-cons (λ k. cond (h == k) 1 0) k ks), sum_by-cons (without T h) k ks, sum_by-split T h ks, here (h == k) refl)
  where
    here : (b : Bool) → (h == k) ≡ b → T k + T h * sum_by (λ k. cond (h == k) 1 0) ks ≡ T h * (cond b 1 0 + sum_by (λ k. cond (h == k) 1 0) ks) + cond b 0 (T k)
    here true is = let same = ap T (eqb-true h k is) in grind (arith)
    here false is = grind (arith)

pub sum_without : (height : Rank → ℕ) → IsHeight height → (T : ℕ → ℕ) (h : ℕ) → IsOfRank height h → sum_by T falling_heights ≡ T h + sum_by (without T h) falling_heights
sum_without height is T h of =
    let one = subst (λ (x : ℕ). sum_by (λ k. cond (x == k) 1 0) falling_heights ≡ 1) of.1 (is.one of.0) in
    let moved = ap (λ (n : ℕ). T h * n + sum_by (without T h) falling_heights) one in
    sum_by-split T h falling_heights ∙ moved ∙ omega arith

sum_at : (height : Rank → ℕ) → IsHeight height → (n h : ℕ) → IsOfRank height h → sum_by (λ k. cond (h == k) n 0) falling_heights ≡ n
sum_at height is n h of =
    let one = subst (λ (x : ℕ). sum_by (λ k. cond (x == k) 1 0) falling_heights ≡ 1) of.1 (is.one of.0) in
    sum_by-at n h falling_heights ∙ ap (λ (m : ℕ). n * m) one ∙ omega arith

-- as many cards are needed as the numbers add up to
pub sum_needs : (height : Rank → ℕ) → IsHeight height → (T : ℕ → ℕ) (ns hs : List ℕ) → OfRanks height T → AreSome ns → Fits T ns hs → sum_by (needs ns hs) falling_heights ≡ total ns
sum_needs height is T [] hs of some fits = sum_by-none falling_heights
sum_needs height is T (n ∷ ns) [] of some fits = absurd fits
sum_needs height is T (n ∷ ns) (h ∷ hs) of some fits =
    sum_by-plus (λ k. cond (h == k) n 0) (needs ns hs) falling_heights
    ∙ omega (arith, sum_at height is n h (of h (omega (arith, fits.0, some.0))), sum_needs height is (without T h) ns hs (without_of_ranks height T h of) some.1 fits.1)

-- a choice that the heights fit
pub record IsFitting (height : Rank → ℕ) (ns hs : List ℕ) (cards : List Card) : Type 0 where
  pub choice : List Card
  pub among : IsAmong choice (choices (total ns) cards)
  pub fits : Fits (times height choice) ns hs

pub fitting : (height : Rank → ℕ) → IsHeight height → (ns hs : List ℕ) (cards : List Card) → AreSome ns → Fits (times height cards) ns hs → IsFitting height ns hs cards
fitting height is ns hs cards some fits =
    let wanted = wanted_chosen height is cards (needs ns hs) (total ns) (fits_needs (times height cards) ns hs fits) (sum_needs height is (times height cards) ns hs (times_of_ranks height cards) some fits) in
    record {
      choice = wanted.choice;
      among = wanted.among;
      fits = fits-within (needs ns hs) (times height wanted.choice) ns hs (λ h. omega (arith, wanted.has h)) (needs_fit (times height cards) ns hs fits);
    }

-- at least as many cards as the numbers add up to
pub total-le : (height : Rank → ℕ) → IsHeight height → (T : ℕ → ℕ) (ns hs : List ℕ) → OfRanks height T → AreSome ns → Fits T ns hs → total ns ≤ sum_by T falling_heights
total-le height is T [] hs of some fits = omega arith
total-le height is T (n ∷ ns) [] of some fits = absurd fits
total-le height is T (n ∷ ns) (h ∷ hs) of some fits =
    omega (arith, fits.0, sum_without height is T h (of h (omega (arith, fits.0, some.0))), total-le height is (without T h) ns hs (without_of_ranks height T h of) some.1 fits.1)

-- a count without a height
count_without : (height : Rank → ℕ) → IsHeight height → (T : ℕ → ℕ) (n h : ℕ) → 0 < n → IsOfRank height h → count_by (λ k. T k == n) falling_heights ≡ cond (T h == n) 1 0 + count_by (λ k. without T h k == n) falling_heights
count_without height is T n h some of =
    sum_without height is (λ k. cond (T k == n) 1 0) h of
    ∙ ap (λ (m : ℕ). cond (T h == n) 1 0 + m) (sum_by-same (without (λ k. cond (T k == n) 1 0) h) (λ k. cond (without T h k == n) 1 0) (λ k. here k (h == k)) falling_heights)
  where
    here : (k : ℕ) (b : Bool) → ◌≡◌ {A = ℕ} (cond b 0 (cond (T k == n) 1 0)) (cond (cond b 0 (T k) == n) 1 0)
    here k true = sym (ap (λ (t : Bool). cond {A = ℕ} t 1 0) (ne_eqb 0 n (λ same. omega arith)))
    here k false = refl

-- if heights fit as many cards as there are, ranks occur as the numbers say
pub fits_counts : (height : Rank → ℕ) → IsHeight height → (T : ℕ → ℕ) (ns hs : List ℕ) (n : ℕ) → 0 < n → OfRanks height T → AreSome ns → Fits T ns hs → sum_by T falling_heights ≡ total ns → count_by (λ k. T k == n) falling_heights ≡ among_numbers n ns
fits_counts height is T [] hs n positive of some fits all = omega (arith, count-le-sum T n falling_heights positive)
fits_counts height is T (m ∷ ns) [] n positive of some fits all = absurd fits
fits_counts height is T (m ∷ ns) (h ∷ hs) n positive of some fits all =
    let here = of h (omega (arith, fits.0, some.0)) in
    let rest_of = without_of_ranks height T h of in
    let split = sum_without height is T h here in
    let least = total-le height is (without T h) ns hs rest_of some.1 fits.1 in
    let exact : T h ≡ m = omega (arith, fits.0) in
    let rest = fits_counts height is (without T h) ns hs n positive rest_of some.1 fits.1 (omega (arith, fits.0)) in
    count_without height is T n h positive here
    ∙ ap (λ (x : ℕ). cond (x == n) 1 0 + count_by (λ k. without T h k == n) falling_heights) exact
    ∙ omega (arith, rest)
