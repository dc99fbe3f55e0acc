-- Each of the 52 cards is once in the deck, so what is counted among different cards depends only
-- on which cards they are.
use Rattle.std.proofs.Common.{◌≡◌, ℕ, ◌+◌, ◌<◌, ◌==◌, ◌&&◌, ◌||◌, Bool, true, false, cond, List, [], ◌∷◌, ◌++◌, ◌⊎◌, length, filter, map, get_or, count_by, inl, inr, refl, sym, ◌∙◌, ap, subst, arith, eq-eqb}
use Rattle.std.specs.List.{range_with_len}
use Rattle.std.specs.Prelude.{nat_le}
use Rattle.std.proofs.lemmas.Bool.{and_parts, leb-true, ne_eqb}
use Rattle.std.proofs.lemmas.List.{get_or-map}
use Rattle.std.proofs.lemmas.List.FromFn.{get_or-range_with_len}
use Rattle.card_set.specs.declared.card.Card.{Card}
use Rattle.card_set.specs.declared.card.Rank.{Rank}
use Rattle.card_set.specs.declared.set.CardSet.{CardSet}
use Rattle.card_set.specs.CardSet.{AreSameCards, count_of, every_card, is_in, is_one_of, listed, IsListing}
use Rattle.card_set.specs.Deck.{deck_index, is_same_card}
use Rattle.card_set.specs.Different.{Lacks, AllDifferent}
use Rattle.card_set.specs.Filler.{filler_card}
use Rattle.card_set.specs.Ranks.{falling_heights, occurring, ranks_of, times}
use Rattle.card_set.proofs.BitLaws.{ranks_below-few}
use Rattle.card_set.proofs.DeckLaws.{deck_index-same, is_same_card-true, suits_before-few}
use Rattle.card_set.proofs.Counting.{count_by-cons, count_by-map, counted_never, range_once}
use Rattle.card_set.proofs.Lists.{filter-agree}
use Rattle.card_set.proofs.Sums.{sum_by-plus, sum_by-same}
use Rattle.card_set.proofs.Tests.{and_false, passes_or_not, true_false}

-- the places of the 52 cards are all places
places : map deck_index every_card ≡ range_with_len 0 52
unfolding every_card
places = refl

-- each card is once in the deck
deck_once : (card : Card) → deck_index card < 52 → count_by (is_same_card card) every_card ≡ 1
deck_once card within =
    sym (count_by-map (λ k. deck_index card == k) deck_index every_card)
    ∙ ap (count_by (λ k. deck_index card == k)) places
    ∙ range_once (deck_index card) 0 52 (omega arith) within

-- a card that is not among others is counted 0 times among them
not_counted : (card : Card) (cards : List Card) → is_one_of card cards ≡ false → count_by (is_same_card card) cards ≡ 0
not_counted card [] absent = refl
not_counted card (other ∷ rest) absent = by_tests (is_same_card other card) refl (is_one_of card rest) refl absent (not_counted card rest)
  where
    by_tests : (a : Bool) → is_same_card other card ≡ a → (b : Bool) → is_one_of card rest ≡ b → (a || b) ≡ false → (is_one_of card rest ≡ false → count_by (is_same_card card) rest ≡ 0) → count_by (is_same_card card) (other ∷ rest) ≡ 0
    by_tests true is b is_b none others = absurd (true_false none)
    by_tests false is b is_b none others =
        let off : is_same_card card other ≡ false = ne_eqb (deck_index card) (deck_index other) (λ same. true_false (sym (eq-eqb (deck_index other) (deck_index card) (sym same)) ∙ is)) in
        let here = ap (λ (t : Bool). cond {A = ℕ} t 1 0) off in
        omega (arith, count_by-cons (is_same_card card) other rest, here, others (is_b ∙ none))

pub in_deck : (card : Card) → deck_index card < 52 → is_one_of card every_card ≡ true
in_deck card within =
    elim (passes_or_not (is_one_of card every_card)) [
      | inl is ↦ is
      | inr absent ↦ absurd (omega (arith, not_counted card every_card absent, deck_once card within))
    ]

-- a card that is not in the rest is not one of them
pub lacks_one_of : (card : Card) (rest : List Card) → Lacks card rest → is_one_of card rest ≡ false
lacks_one_of card [] lacks = refl
lacks_one_of card (other ∷ rest) lacks =
    elim (passes_or_not (is_same_card other card)) [
      | inl same ↦ absurd (lacks.0 (sym (is_same_card-true other card same)))
      | inr apart ↦ ap (λ (b : Bool). b || is_one_of card rest) apart ∙ lacks_one_of card rest lacks.1
    ]

-- a card is one of those that pass if it is one of them and passes
pub is_one_of-filter : (p : Card → Bool) (card : Card) (cards : List Card) → is_one_of card (filter p cards) ≡ (is_one_of card cards && p card)
is_one_of-filter p card [] = refl
is_one_of-filter p card (first ∷ rest) = by_tests (p first) refl (passes_or_not (is_same_card first card)) (is_one_of-filter p card rest)
  where
    by_tests : (t : Bool) → p first ≡ t → (is_same_card first card ≡ true) ⊎ (is_same_card first card ≡ false) → is_one_of card (filter p rest) ≡ (is_one_of card rest && p card) → is_one_of card (cond t (first ∷ filter p rest) (filter p rest)) ≡ ((is_same_card first card || is_one_of card rest) && p card)
    by_tests true is (inl same) others =
        let passes : p card ≡ true = ap p (sym (is_same_card-true first card same)) ∙ is in
        ap (λ (b : Bool). b || is_one_of card (filter p rest)) same ∙ sym passes ∙ sym (ap (λ (b : Bool). (b || is_one_of card rest) && p card) same)
    by_tests true is (inr apart) others =
        ap (λ (b : Bool). b || is_one_of card (filter p rest)) apart ∙ others ∙ sym (ap (λ (b : Bool). (b || is_one_of card rest) && p card) apart)
    by_tests false is (inl same) others =
        let fails : p card ≡ false = ap p (sym (is_same_card-true first card same)) ∙ is in
        others ∙ ap (λ (b : Bool). is_one_of card rest && b) fails ∙ and_false (is_one_of card rest) ∙ sym fails ∙ sym (ap (λ (b : Bool). (b || is_one_of card rest) && p card) same)
    by_tests false is (inr apart) others = others ∙ sym (ap (λ (b : Bool). (b || is_one_of card rest) && p card) apart)

-- different cards stay different
kept_lacks : (p : Card → Bool) (card : Card) (cards : List Card) → Lacks card cards → Lacks card (filter p cards)
kept_lacks p card [] lacks = tt
kept_lacks p card (other ∷ rest) lacks = by_test (p other) (kept_lacks p card rest lacks.1)
  where
    by_test : (b : Bool) → Lacks card (filter p rest) → Lacks card (cond b (other ∷ filter p rest) (filter p rest))
    by_test true is = (lacks.0, is)
    by_test false is = is

pub kept_different : (p : Card → Bool) (cards : List Card) → AllDifferent cards → AllDifferent (filter p cards)
kept_different p [] different = tt
kept_different p (card ∷ rest) different = by_test (p card) (kept_different p rest different.1)
  where
    by_test : (b : Bool) → AllDifferent (filter p rest) → AllDifferent (cond b (card ∷ filter p rest) (filter p rest))
    by_test true is = (kept_lacks p card rest different.0, is)
    by_test false is = is

-- cards in the order of the deck, from a index on
abbrev is_ordered : ℕ → List Card → Bool
is_ordered from [] = true
is_ordered from (card ∷ rest) = nat_le from (deck_index card) && is_ordered (deck_index card + 1) rest

ordered_lacks : (card : Card) (from : ℕ) (cards : List Card) → deck_index card < from → is_ordered from cards ≡ true → Lacks card cards
ordered_lacks card from [] before ordered = tt
ordered_lacks card from (other ∷ rest) before ordered =
    let parts = and_parts (nat_le from (deck_index other)) (is_ordered (deck_index other + 1) rest) ordered in
    let le = leb-true from (deck_index other) parts.0 in
    ((λ same. let at = ap deck_index same in absurd (omega arith)), ordered_lacks card (deck_index other + 1) rest (omega arith) parts.1)

ordered_different : (from : ℕ) (cards : List Card) → is_ordered from cards ≡ true → AllDifferent cards
ordered_different from [] ordered = tt
ordered_different from (card ∷ rest) ordered =
    let parts = and_parts (nat_le from (deck_index card)) (is_ordered (deck_index card + 1) rest) ordered in
    (ordered_lacks card (deck_index card + 1) rest (omega arith) parts.1, ordered_different (deck_index card + 1) rest parts.1)

deck_different : AllDifferent every_card
unfolding every_card
deck_different = ordered_different 0 every_card refl

place_within : (card : Card) → deck_index card < 52
place_within card = omega (arith, ranks_below-few card.rank, suits_before-few card.suit)

-- the cards of a set, in the order of the deck, list it
pub listed_listing : (set : CardSet) → IsListing set (listed set)
listed_listing set = record {
  different = kept_different (is_in set) every_card deck_different;
  same = λ card. sym (is_one_of-filter (is_in set) card every_card ∙ ap (λ (b : Bool). b && is_in set card) (in_deck card (place_within card)));
}

pub deck_length : length every_card ≡ 52
unfolding every_card
deck_length = refl

-- the card at a index of the deck
pub deck_at : (card : Card) (index : ℕ) → deck_index card ≡ index → index < 52 → get_or every_card index filler_card ≡ card
deck_at card index is within =
    deck_index-same (get_or every_card index filler_card) card
    (sym (get_or-map deck_index every_card index filler_card 0 (omega (arith, deck_length))) ∙ ap (λ (l : List ℕ). get_or l index 0) places ∙ get_or-range_with_len 0 52 index 0 within ∙ omega arith)

-- what passes a test among different cards is counted in the deck
counted_step : (p : Card → Bool) (card : Card) (rest : List Card) → Lacks card rest → (other : Card) → cond {A = ℕ} (is_one_of other (card ∷ rest) && p other) 1 0 ≡ cond (is_same_card card other && p card) 1 0 + cond (is_one_of other rest && p other) 1 0
counted_step p card rest lacks other = by_test (passes_or_not (is_same_card card other))
  where
    by_test : (is_same_card card other ≡ true) ⊎ (is_same_card card other ≡ false) → cond {A = ℕ} (is_one_of other (card ∷ rest) && p other) 1 0 ≡ cond (is_same_card card other && p card) 1 0 + cond (is_one_of other rest && p other) 1 0
    by_test (inl same) =
        let absent = subst (λ (c : Card). is_one_of c rest ≡ false) (is_same_card-true card other same) (lacks_one_of card rest lacks) in
        let left = ap (λ (b : Bool). cond {A = ℕ} ((b || is_one_of other rest) && p other) 1 0) same in
        let first = ap (λ (b : Bool). cond {A = ℕ} (b && p card) 1 0) same in
        let second = ap (λ (b : Bool). cond {A = ℕ} (b && p other) 1 0) absent in
        let tests = ap (λ (c : Card). cond {A = ℕ} (p c) 1 0) (is_same_card-true card other same) in
        omega (arith, left, first, second, tests)
    by_test (inr apart) =
        let left = ap (λ (b : Bool). cond {A = ℕ} ((b || is_one_of other rest) && p other) 1 0) apart in
        let first = ap (λ (b : Bool). cond {A = ℕ} (b && p card) 1 0) apart in
        omega (arith, left, first)

counted_card : (p : Card → Bool) (card : Card) → count_by (λ other. is_same_card card other && p card) every_card ≡ cond (p card) 1 0
counted_card p card = by_test (p card)
  where
    and_true : (b : Bool) → (b && true) ≡ b
    and_true true = refl
    and_true false = refl

    by_test : (b : Bool) → count_by (λ other. is_same_card card other && b) every_card ≡ cond b 1 0
    by_test true = sum_by-same (λ other. cond (is_same_card card other && true) 1 0) (λ other. cond (is_same_card card other) 1 0) (λ other. ap (λ (t : Bool). cond t 1 0) (and_true (is_same_card card other))) every_card ∙ deck_once card (place_within card)
    by_test false = sum_by-same (λ other. cond (is_same_card card other && false) 1 0) (λ other. 0) (λ other. ap (λ (t : Bool). cond t 1 0) (and_false (is_same_card card other))) every_card ∙ counted_never every_card

pub counted_in_deck : (p : Card → Bool) (cards : List Card) → AllDifferent cards → count_by p cards ≡ count_by (λ other. is_one_of other cards && p other) every_card
counted_in_deck p [] different = sym (counted_never every_card)
counted_in_deck p (card ∷ rest) different =
    let all =
    sum_by-same (λ other. cond (is_one_of other (card ∷ rest) && p other) 1 0) (λ other. cond (is_same_card card other && p card) 1 0 + cond (is_one_of other rest && p other) 1 0) (counted_step p card rest different.0) every_card
    ∙ sum_by-plus (λ other. cond (is_same_card card other && p card) 1 0) (λ other. cond (is_one_of other rest && p other) 1 0) every_card in
    omega (arith, count_by-cons p card rest, all, counted_card p card, counted_in_deck p rest different.1)

-- the same different cards give the same counts
pub count_by-same : (p : Card → Bool) (a b : List Card) → AllDifferent a → AllDifferent b → AreSameCards a b → count_by p a ≡ count_by p b
count_by-same p a b different_a different_b same =
    counted_in_deck p a different_a
    ∙ sum_by-same (λ other. cond (is_one_of other a && p other) 1 0) (λ other. cond (is_one_of other b && p other) 1 0) (λ other. ap (λ (t : Bool). cond (t && p other) 1 0) (same other)) every_card
    ∙ sym (counted_in_deck p b different_b)

length-count : (cards : List Card) → length cards ≡ count_by (λ card. true) cards
length-count [] = refl
length-count (card ∷ rest) = omega (arith, count_by-cons (λ c. true) card rest, length-count rest)

-- there are as many of them
pub length-same : (a b : List Card) → AllDifferent a → AllDifferent b → AreSameCards a b → length a ≡ length b
length-same a b different_a different_b same = length-count a ∙ count_by-same (λ card. true) a b different_a different_b same ∙ sym (length-count b)

-- their ranks occur equally often
pub times-same : (height : Rank → ℕ) (a b : List Card) → AllDifferent a → AllDifferent b → AreSameCards a b → (h : ℕ) → times height a h ≡ times height b h
unfolding times
times-same height a b different_a different_b same h = count_by-same (λ card. height card.rank == h) a b different_a different_b same

pub occurring-same : (height : Rank → ℕ) (a b : List Card) → AllDifferent a → AllDifferent b → AreSameCards a b → (n : ℕ) → occurring height a n ≡ occurring height b n
unfolding occurring
occurring-same height a b different_a different_b same n =
    filter-agree (λ h. times height a h == n) (λ h. times height b h == n) falling_heights (λ h. ap (λ (t : ℕ). t == n) (times-same height a b different_a different_b same h))

-- and they have the same ranks in the same order
pub ranks_of-same : (height : Rank → ℕ) (a b : List Card) → AllDifferent a → AllDifferent b → AreSameCards a b → ranks_of height a ≡ ranks_of height b
unfolding ranks_of
ranks_of-same height a b different_a different_b same =
    let each = occurring-same height a b different_a different_b same in
    ap (λ (l : List ℕ). l ++ (occurring height a 3 ++ (occurring height a 2 ++ occurring height a 1))) (each 4)
    ∙ ap (λ (l : List ℕ). occurring height b 4 ++ (l ++ (occurring height a 2 ++ occurring height a 1))) (each 3)
    ∙ ap (λ (l : List ℕ). occurring height b 4 ++ (occurring height b 3 ++ (l ++ occurring height a 1))) (each 2)
    ∙ ap (λ (l : List ℕ). occurring height b 4 ++ (occurring height b 3 ++ (occurring height b 2 ++ l))) (each 1)

-- lists of one set have the same cards
pub same_listings : (set : CardSet) (a b : List Card) → IsListing set a → IsListing set b → AreSameCards a b
same_listings set a b one other card = sym (one.same card) ∙ other.same card

-- a set has as many cards as are listed
pub count_of-listing : (set : CardSet) (cards : List Card) → IsListing set cards → count_of set ≡ length cards
count_of-listing set cards listing = length-same (listed set) cards (listed_listing set).different listing.different (same_listings set (listed set) cards (listed_listing set) listing)
