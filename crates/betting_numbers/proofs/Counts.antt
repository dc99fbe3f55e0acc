-- How often heights occur, counted card by card.
use Rattle.std.proofs.Common.{◌≡◌, ℕ, zero, suc, ◌+◌, ◌<◌, ◌≤◌, ◌==◌, nat_lt, Bool, true, cond, List, [], ◌∷◌, inl, inr, ◌-◌, filter, replicate, take, drop, get_or, length, slice_index, slice_set, arith, refl, ap, eq-eqb}
use Rattle.std.specs.List.{list_all}
use Rattle.std.proofs.lemmas.Bool.{and_parts, cases_eq, ltb-true, ne_eqb}
use Rattle.std.proofs.lemmas.List.{get_or-set_other, get_or-set_same, take_all}
use Rattle.card_set.specs.declared.card.Card.{Card}
use Rattle.card_set.specs.declared.card.Rank.{Rank}
use Rattle.card_set.specs.declared.card.Rank.TheVariants as ranks
use Rattle.card_set.specs.Ranks.{falling_heights, high_ace, low_ace, occurring, times}
use Rattle.hand_order.specs.Height.{height_with}
use Rattle.hand_order.specs.declared.ranks.Ace.{Ace}
use Rattle.hand_order.specs.declared.ranks.Ace.TheVariants as aces
use Rattle.card_set.proofs.Counted.{times-cons, times-none}
use Rattle.card_set.proofs.Lists.{filter-agree}
use Rattle.betting_numbers.specs.HeightRow.{counted}

-- the heights, among the first ones, that are counted this many times
abbrev pub counted_first : List ℕ → ℕ → ℕ → List ℕ
counted_first counts n i = filter (λ h. slice_index counts h == n) (take i falling_heights)

pub counted_all : (counts : List ℕ) (n i : ℕ) → i ≡ 14 → counted_first counts n i ≡ counted counts n
unfolding falling_heights
counted_all counts n i all = ap (λ (k : ℕ). counted_first counts n k) all

below_at : (xs : List ℕ) (i : ℕ) → list_all (λ h. nat_lt h 15) xs ≡ true → get_or xs i 0 < 15
below_at [] i all = omega arith
below_at (x ∷ xs) zero all = ltb-true x 15 (and_parts (nat_lt x 15) (list_all (λ h. nat_lt h 15) xs) all).0
below_at (x ∷ xs) (suc i) all = below_at xs i (and_parts (nat_lt x 15) (list_all (λ h. nat_lt h 15) xs) all).1

pub falling_below : (i : ℕ) → get_or falling_heights i 0 < 15
unfolding falling_heights
falling_below i = below_at (14 ∷ 13 ∷ 12 ∷ 11 ∷ 10 ∷ 9 ∷ 8 ∷ 7 ∷ 6 ∷ 5 ∷ 4 ∷ 3 ∷ 2 ∷ 1 ∷ []) i refl

high_below : (rank : Rank) → high_ace rank < 15
high_below ranks.Two = omega arith
high_below ranks.Three = omega arith
high_below ranks.Four = omega arith
high_below ranks.Five = omega arith
high_below ranks.Six = omega arith
high_below ranks.Seven = omega arith
high_below ranks.Eight = omega arith
high_below ranks.Nine = omega arith
high_below ranks.Ten = omega arith
high_below ranks.Jack = omega arith
high_below ranks.Queen = omega arith
high_below ranks.King = omega arith
high_below ranks.Ace = omega arith

low_below : (rank : Rank) → low_ace rank < 15
low_below ranks.Two = omega arith
low_below ranks.Three = omega arith
low_below ranks.Four = omega arith
low_below ranks.Five = omega arith
low_below ranks.Six = omega arith
low_below ranks.Seven = omega arith
low_below ranks.Eight = omega arith
low_below ranks.Nine = omega arith
low_below ranks.Ten = omega arith
low_below ranks.Jack = omega arith
low_below ranks.Queen = omega arith
low_below ranks.King = omega arith
low_below ranks.Ace = omega arith

-- heights are counted up to 14
pub height_below : (ace : Ace) (rank : Rank) → height_with ace rank < 15
height_below aces.High rank = high_below rank
height_below aces.Low rank = low_below rank

pub times_of_none : (height : Rank → ℕ) (cards : List Card) (h : ℕ) → length cards < 1 → times height cards h ≡ 0
times_of_none height [] h none = times-none height h
times_of_none height (card ∷ rest) h none = absurd (omega (arith, none))

-- one more card is counted at its height
pub one_more : (height : Rank → ℕ) (cards : List Card) (counts : List ℕ) (at h : ℕ) (d : Card) → 1 ≤ length cards → at < length counts → at ≡ height (get_or cards 0 d).rank → (new : ℕ)
    → new ≡ slice_index (slice_set counts at (get_or counts at 0 + 1)) h + times height (take (length cards - 1) (drop 1 cards)) h → new ≡ slice_index counts h + times height cards h
one_more height [] counts at h d some within is new counted = absurd (omega (arith, some))
one_more height (card ∷ rest) counts at h d some within is new counted =
    let rest_is = ap (λ (l : List Card). times height l h) (take_all (length (card ∷ rest) - 1) rest (omega arith)) in
    let cons = times-cons height card rest h in
    elim (cases_eq h at) [
      | inl same ↦
          let here = ap {B = ℕ} (λ (b : Bool). cond b 1 0) (eq-eqb (height card.rank) h (omega arith)) in
          let put = get_or-set_same counts at (get_or counts at 0 + 1) 0 within in
          let old = ap (λ (k : ℕ). slice_index (slice_set counts at (get_or counts at 0 + 1)) k) same in
          let at_h = ap (λ (k : ℕ). slice_index counts k) same in
          omega (arith, counted, rest_is, cons, here, put, old, at_h)
      | inr other ↦
          let not_here = ap {B = ℕ} (λ (b : Bool). cond b 1 0) (ne_eqb (height card.rank) h (λ same. other (omega arith))) in
          let kept = get_or-set_other counts at h (get_or counts at 0 + 1) 0 other in
          omega (arith, counted, rest_is, cons, not_here, kept)
    ]

zeros : (n i : ℕ) → ◌≡◌ {A = ℕ} (get_or (replicate n 0) i 0) 0
zeros zero i = refl
zeros (suc n) zero = refl
zeros (suc n) (suc i) = zeros n i

-- once all cards are counted, the heights that are counted this many times are those that occur
-- this many times
pub counted_occurring : (height : Rank → ℕ) (cards slice : List Card) (counts : List ℕ) → slice ≡ cards → ((h : ℕ) → slice_index counts h ≡ slice_index (replicate 15 0) h + times height slice h) → (n : ℕ) → counted counts n ≡ occurring height cards n
unfolding occurring
counted_occurring height cards slice counts same all n =
    filter-agree (λ h. slice_index counts h == n) (λ h. times height cards h == n) falling_heights
    (λ h. ap (λ (t : ℕ). t == n) (let here = ap (λ (l : List Card). times height l h) same in omega (arith, all h, zeros 15 h, here)))
