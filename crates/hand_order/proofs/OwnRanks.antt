-- The ranks of a hand, those that occur more often first, are what is picked from its own counts.
use Rattle.std.proofs.Common.{◌≡◌, ℕ, zero, suc, ◌<◌, ◌≤◌, ◌==◌, Bool, true, false, cond, List, [], ◌∷◌, ◌++◌, length, filter, inl, inr, refl, sym, ◌∙◌, ap, subst, arith, eqb-true, append-nil}
use Rattle.std.proofs.lemmas.Bool.{cases_lt, eqb-false}
use Rattle.card_set.specs.declared.card.Card.{Card}
use Rattle.card_set.specs.declared.card.Rank.{Rank}
use Rattle.card_set.specs.declared.card.Rank.TheVariants as ranks
use Rattle.card_set.specs.Different.{AllDifferent}
use Rattle.card_set.specs.Ranks.{falling_heights, times, occurring, ranks_of, ranks_occurring, high_ace}
use Rattle.card_set.proofs.Counted.{IsHeight, few_times}
use Rattle.hand_order.proofs.FittingChoices.{times_of_ranks}
use Rattle.hand_order.specs.Patterns.{without, IsPicked}

-- a number several times
abbrev pub several : ℕ → ℕ → List ℕ
several zero n = []
several (suc m) n = n ∷ several m n

-- the heights from one down
abbrev pub down : ℕ → List ℕ
down zero = []
down (suc b) = suc b ∷ down b

-- the count if it is at most this number, and otherwise none
abbrev Low : ℕ → ℕ → ℕ → Type 0
Low n whole t = (whole ≤ n → t ≡ whole) × (n < whole → t ≡ 0)

low-le : (n whole t : ℕ) → Low n whole t → t ≤ n
low-le n whole t low = elim (cases_lt n whole) [ inl above ↦ omega (arith, low.1 above) | inr within ↦ omega (arith, low.0 within) ]

-- the heights from `b` down that occur this number of times
abbrev exactly : (ℕ → ℕ) → ℕ → ℕ → List ℕ
exactly T n b = filter (λ h. T h == n) (down b)

abbrev StepFrom : (ℕ → ℕ) → ℕ → List ℕ → List ℕ → ℕ → List ℕ → Type 0
StepFrom whole m ns hs b found = (T : ℕ → ℕ) → ((k : ℕ) → k ≤ b → Low (suc m) (whole k) (T k)) → ((k : ℕ) → b < k → Low m (whole k) (T k)) → IsPicked T (several (length found) (suc m) ++ ns) (found ++ hs)

-- one more height that occurs this number of times
step_yes : (whole : ℕ → ℕ) (m : ℕ) (ns hs : List ℕ) (b : ℕ) (found : List ℕ) → StepFrom whole m ns hs b found → whole (suc b) ≡ suc m → StepFrom whole m ns hs (suc b) (suc b ∷ found)
step_yes whole m ns hs b found rest is T low high =
    let here : T (suc b) ≡ suc m = (low (suc b) (omega arith)).0 (omega arith) ∙ is in (
      omega arith,
      (λ k often. elim (cases_lt (suc b) k) [ inl above ↦ absurd (omega (arith, low-le m (whole k) (T k) (high k above))) | inr within ↦ within ]),
      rest (without T (suc b)) (λ k within. below k within (suc b == k) refl) (λ k above. over k above (suc b == k) refl),
    )
  where
    below : (k : ℕ) → k ≤ b → (t : Bool) → (suc b == k) ≡ t → Low (suc m) (whole k) (cond t 0 (T k))
    below k within true same = absurd (omega (arith, eqb-true (suc b) k same))
    below k within false other = low k (omega arith)

    over : (k : ℕ) → b < k → (t : Bool) → (suc b == k) ≡ t → Low m (whole k) (cond t 0 (T k))
    over k above true same = let at = ap whole (eqb-true (suc b) k same) in (λ few. absurd (omega arith), λ many. refl)
    over k above false other = high k (let apart = eqb-false (suc b) k other in elim (cases_lt (suc b) k) [ inl more ↦ more | inr least ↦ absurd (apart (omega arith)) ])

step_no : (whole : ℕ → ℕ) (m : ℕ) (ns hs : List ℕ) (b : ℕ) (found : List ℕ) → StepFrom whole m ns hs b found → (whole (suc b) ≡ suc m → ⊥) → StepFrom whole m ns hs (suc b) found
step_no whole m ns hs b found rest is_not T low high =
    rest T (λ k within. low k (omega arith)) (λ k above. elim (cases_lt (suc b) k) [ inl more ↦ high k more | inr least ↦ at k (omega arith) (low k least) ])
  where
    at : (k : ℕ) → suc b ≡ k → Low (suc m) (whole k) (T k) → Low m (whole k) (T k)
    at k same is = let moved = ap whole same in (λ few. is.0 (omega arith), λ many. is.1 (elim (cases_lt (suc m) (whole k)) [ inl more ↦ more | inr least ↦ absurd (is_not (omega arith)) ]))

low_none : (whole : ℕ → ℕ) (m k t : ℕ) → whole 0 ≡ 0 → k ≡ 0 → Low (suc m) (whole k) t → Low m (whole k) t
low_none whole m k t none same is = let moved = ap whole same in (λ few. is.0 (omega arith), λ many. absurd (omega arith))

stage : (whole : ℕ → ℕ) (m : ℕ) (ns hs : List ℕ) → whole 0 ≡ 0 → ((U : ℕ → ℕ) → ((k : ℕ) → Low m (whole k) (U k)) → IsPicked U ns hs) → (b : ℕ) → StepFrom whole m ns hs b (exactly whole (suc m) b)
stage whole m ns hs none go_on zero = λ T low high. go_on T (λ k. elim (cases_lt 0 k) [ inl more ↦ high k more | inr least ↦ low_none whole m k (T k) none (omega arith) (low k (omega arith)) ])
stage whole m ns hs none go_on (suc b) =
    by_test (whole (suc b) == suc m) refl (stage whole m ns hs none go_on b)
  where
    by_test : (t : Bool) → (whole (suc b) == suc m) ≡ t → StepFrom whole m ns hs b (exactly whole (suc m) b) → StepFrom whole m ns hs (suc b) (cond t (suc b ∷ exactly whole (suc m) b) (exactly whole (suc m) b))
    by_test true is rest = step_yes whole m ns hs b (exactly whole (suc m) b) rest (eqb-true (whole (suc b)) (suc m) is)
    by_test false is rest = step_no whole m ns hs b (exactly whole (suc m) b) rest (eqb-false (whole (suc b)) (suc m) is)

-- how often ranks occur, as numbers
abbrev pub pattern_of : (Rank → ℕ) → List Card → List ℕ
pattern_of height cards = several (ranks_occurring height cards 4) 4 ++ (several (ranks_occurring height cards 3) 3 ++ (several (ranks_occurring height cards 2) 2 ++ (several (ranks_occurring height cards 1) 1 ++ [])))

abbrev pub InRange : (Rank → ℕ) → Type 0
InRange height = (rank : Rank) → (0 < height rank) × (height rank ≤ 14)

pub all_down : falling_heights ≡ down 14
unfolding falling_heights
all_down = refl

-- all stages
stages : (whole : ℕ → ℕ) → whole 0 ≡ 0 → ((k : ℕ) → whole k ≤ 4) → ((k : ℕ) → 14 < k → whole k ≡ 0) → IsPicked whole (several (length (exactly whole 4 14)) 4 ++ (several (length (exactly whole 3 14)) 3 ++ (several (length (exactly whole 2 14)) 2 ++ (several (length (exactly whole 1 14)) 1 ++ [])))) (exactly whole 4 14 ++ (exactly whole 3 14 ++ (exactly whole 2 14 ++ (exactly whole 1 14 ++ []))))
stages whole none few past =
    stage whole 3 _ _ none (λ three low_three.
    stage whole 2 _ _ none (λ two low_two.
    stage whole 1 _ _ none (λ one low_one.
    stage whole 0 _ _ none (λ rest low. tt) 14 one (λ k within. low_one k) (λ k above. under 0 1 k above (one k) (low_one k)))
    14 two (λ k within. low_two k) (λ k above. under 1 2 k above (two k) (low_two k)))
    14 three (λ k within. low_three k) (λ k above. under 2 3 k above (three k) (low_three k)))
    14 whole (λ k within. (λ few. refl, λ many. absurd (omega (arith, few k)))) (λ k above. (λ few. refl, λ many. absurd (omega (arith, past k above))))
  where
    under : (m n k : ℕ) → 14 < k → (t : ℕ) → Low n (whole k) t → Low m (whole k) t
    under m n k above t low = let zero_here = past k above in (λ few. low.0 (omega arith), λ many. absurd (omega arith))

-- the ranks of different cards are picked from their own counts
pub own_picked : (height : Rank → ℕ) → IsHeight height → InRange height → (cards : List Card) → AllDifferent cards → IsPicked (times height cards) (pattern_of height cards) (ranks_of height cards)
unfolding ranks_of occurring
own_picked height is range cards different =
    let whole = times height cards in
    let none : whole 0 ≡ 0 = elim (cases_lt 0 (whole 0)) [ inl some ↦ let of = times_of_ranks height cards 0 some in absurd (omega (arith, of.1, (range of.0).0)) | inr least ↦ omega arith ] in
    let past : (k : ℕ) → 14 < k → whole k ≡ 0 = λ k above. elim (cases_lt 0 (whole k)) [ inl some ↦ let of = times_of_ranks height cards k some in absurd (omega (arith, of.1, (range of.0).1)) | inr least ↦ omega arith ] in
    subst (λ (l : List ℕ). IsPicked whole (pattern_of height cards) (filter (λ h. whole h == 4) l ++ (filter (λ h. whole h == 3) l ++ (filter (λ h. whole h == 2) l ++ filter (λ h. whole h == 1) l)))) refl
    (subst (λ (l : List ℕ). IsPicked whole (several (length (filter (λ h. whole h == 4) l)) 4 ++ (several (length (filter (λ h. whole h == 3) l)) 3 ++ (several (length (filter (λ h. whole h == 2) l)) 2 ++ (several (length (filter (λ h. whole h == 1) l)) 1 ++ [])))) (filter (λ h. whole h == 4) l ++ (filter (λ h. whole h == 3) l ++ (filter (λ h. whole h == 2) l ++ filter (λ h. whole h == 1) l)))) (sym all_down)
    (subst (λ (l : List ℕ). IsPicked whole (several (length (exactly whole 4 14)) 4 ++ (several (length (exactly whole 3 14)) 3 ++ (several (length (exactly whole 2 14)) 2 ++ (several (length (exactly whole 1 14)) 1 ++ [])))) (exactly whole 4 14 ++ (exactly whole 3 14 ++ (exactly whole 2 14 ++ l)))) (append-nil (exactly whole 1 14))
    (stages whole none (few_times height is cards different) past)))

pub InRange-high_ace : InRange high_ace
InRange-high_ace ranks.Two = (omega arith, omega arith)
InRange-high_ace ranks.Three = (omega arith, omega arith)
InRange-high_ace ranks.Four = (omega arith, omega arith)
InRange-high_ace ranks.Five = (omega arith, omega arith)
InRange-high_ace ranks.Six = (omega arith, omega arith)
InRange-high_ace ranks.Seven = (omega arith, omega arith)
InRange-high_ace ranks.Eight = (omega arith, omega arith)
InRange-high_ace ranks.Nine = (omega arith, omega arith)
InRange-high_ace ranks.Ten = (omega arith, omega arith)
InRange-high_ace ranks.Jack = (omega arith, omega arith)
InRange-high_ace ranks.Queen = (omega arith, omega arith)
InRange-high_ace ranks.King = (omega arith, omega arith)
InRange-high_ace ranks.Ace = (omega arith, omega arith)
