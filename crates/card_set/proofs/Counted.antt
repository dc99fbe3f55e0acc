-- How often ranks occur adds up to the number of cards, so the class of a hand decides how many
-- different ranks it has.
use Rattle.std.proofs.Common.{◌≡◌, ℕ, ◌+◌, ◌*◌, ◌≤◌, ◌==◌, Bool, true, false, cond, ◌&&◌, List, [], ◌∷◌, ◌++◌, length, count_by, sum_by, find, unwrap_or, refl, sym, ◌∙◌, ap, arith, length-append, eqb-true, inl, inr}
use Rattle.std.specs.List.{list_all}
use Rattle.std.proofs.lemmas.List.Sums.{sum_by-cons, length-filter}
use Rattle.std.proofs.lemmas.Bool.{and_parts}
use Rattle.card_set.specs.declared.card.Card.{Card}
use Rattle.card_set.specs.declared.card.Rank.{Rank}
use Rattle.card_set.specs.declared.card.Rank.TheVariants as ranks
use Rattle.card_set.specs.declared.card.Suit.{Suit}
use Rattle.card_set.specs.declared.card.Suit.TheVariants as suits
use Rattle.card_set.specs.Deck.{suits_before, all_ranks}
use Rattle.card_set.specs.Ranks.{high_ace, low_ace, falling_heights, times, occurring, ranks_occurring, ranks_of, is_one_suit}
use Rattle.card_set.proofs.DeckLaws.{suits_same}
use Rattle.card_set.specs.Different.{Lacks, AllDifferent}
use Rattle.card_set.proofs.Counting.{count_by-cons, count_by-none, counts-le-sum, sum_by-values}
use Rattle.card_set.proofs.Sums.{sum_by-plus, sum_by-same}
use Rattle.card_set.proofs.Tests.{and_true, passes_or_not}

-- no card has this height
pub times-none : (height : Rank → ℕ) (h : ℕ) → times height [] h ≡ 0
unfolding times
times-none height h = refl

-- the rank with this height
abbrev pub rank_with : (Rank → ℕ) → ℕ → Rank
rank_with height h = unwrap_or (find (λ rank. height rank == h) all_ranks) ranks.Two

-- each rank has one height, and is found by it
pub record IsHeight (height : Rank → ℕ) : Type 0 where
  pub one : (rank : Rank) → sum_by (λ h. cond (height rank == h) 1 0) falling_heights ≡ 1
  pub back : (rank : Rank) → rank_with height (height rank) ≡ rank

-- one more card
pub times-cons : (height : Rank → ℕ) (card : Card) (cards : List Card) (h : ℕ) → times height (card ∷ cards) h ≡ cond (height card.rank == h) 1 0 + times height cards h
unfolding times
times-cons height card cards h = sum_by-cons (λ c. cond (height c.rank == h) 1 0) card cards

-- no card has any height
no_times : (height : Rank → ℕ) → sum_by (times height []) falling_heights ≡ 0
unfolding times falling_heights
no_times height = refl

-- the times of all heights add up to the cards
pub all_times : (height : Rank → ℕ) → IsHeight height → (cards : List Card) → sum_by (times height cards) falling_heights ≡ length cards
all_times height is [] = no_times height
all_times height is (card ∷ cards) =
    sum_by-same (times height (card ∷ cards)) (λ h. cond (height card.rank == h) 1 0 + times height cards h) (times-cons height card cards) falling_heights
    ∙ sum_by-plus (λ h. cond (height card.rank == h) 1 0) (times height cards) falling_heights
    ∙ omega (arith, is.one card.rank, all_times height is cards)

-- as many ranks as heights occur exactly `n` times
pub ranks_occurring_count : (height : Rank → ℕ) (cards : List Card) (n : ℕ) → ranks_occurring height cards n ≡ count_by (λ h. times height cards h == n) falling_heights
unfolding occurring
ranks_occurring_count height cards n = length-filter (λ h. times height cards h == n) falling_heights

-- if no rank occurs more than four times, the cards are those of the ranks that occur four times,
-- three times, twice and once
pub counted : (height : Rank → ℕ) → IsHeight height → (cards : List Card) → ((h : ℕ) → times height cards h ≤ 4) → length cards ≡ 4 * ranks_occurring height cards 4 + 3 * ranks_occurring height cards 3 + 2 * ranks_occurring height cards 2 + ranks_occurring height cards 1
counted height is cards few =
    omega (arith, all_times height is cards, sum_by-values (times height cards) falling_heights few, ranks_occurring_count height cards 4, ranks_occurring_count height cards 3, ranks_occurring_count height cards 2, ranks_occurring_count height cards 1)

-- the list of ranks has the ranks that occur four times, three times, twice and once
pub length-ranks_of : (height : Rank → ℕ) (cards : List Card) → length (ranks_of height cards) ≡ ranks_occurring height cards 4 + ranks_occurring height cards 3 + ranks_occurring height cards 2 + ranks_occurring height cards 1
unfolding ranks_of
length-ranks_of height cards =
    omega (arith, length-append (occurring height cards 4) (occurring height cards 3 ++ (occurring height cards 2 ++ occurring height cards 1)), length-append (occurring height cards 3) (occurring height cards 2 ++ occurring height cards 1), length-append (occurring height cards 2) (occurring height cards 1))

-- a count with one more element, which does not pass or does
count_by-no : (p : Card → Bool) (card : Card) (rest : List Card) → p card ≡ false → count_by p (card ∷ rest) ≡ count_by p rest
count_by-no p card rest is = let b = ap {B = ℕ} (λ t. cond t 1 0) is in omega (arith, count_by-cons p card rest, b)

count_by-yes : (p : Card → Bool) (card : Card) (rest : List Card) → p card ≡ true → count_by p (card ∷ rest) ≡ 1 + count_by p rest
count_by-yes p card rest is = let b = ap {B = ℕ} (λ t. cond t 1 0) is in omega (arith, count_by-cons p card rest, b)

-- no card of a list passes a test that only a card passes which is not in the list
none_like : (p : Card → Bool) (card : Card) (cards : List Card) → Lacks card cards → ((other : Card) → p other ≡ true → card ≡ other) → count_by p cards ≡ 0
none_like p card [] lacks only = refl
none_like p card (other ∷ rest) lacks only =
    elim (passes_or_not (p other)) [
      | inl passes ↦ absurd (lacks.0 (only other passes))
      | inr fails ↦ count_by-no p other rest fails ∙ none_like p card rest lacks.1 only
    ]

-- of different cards at most one passes a test that only one card passes
at_most_one : (p : Card → Bool) (cards : List Card) → AllDifferent cards → ((first second : Card) → p first ≡ true → p second ≡ true → first ≡ second) → count_by p cards ≤ 1
at_most_one p [] different only = omega arith
at_most_one p (card ∷ rest) different only =
    elim (passes_or_not (p card)) [
      | inl passes ↦ omega (arith, count_by-yes p card rest passes, none_like p card rest different.0 (λ other. only card other passes))
      | inr fails ↦ omega (arith, count_by-no p card rest fails, at_most_one p rest different.1 only)
    ]

abbrev card_of : Rank → Suit → Card
card_of rank suit = record { rank = rank; suit = suit }

-- a card is its rank and its suit
one_card : (first second : Card) → first.rank ≡ second.rank → first.suit ≡ second.suit → first ≡ second
one_card first second rank suit = ap (λ (r : Rank). card_of r first.suit) rank ∙ ap (λ (s : Suit). card_of second.rank s) suit

-- a card of this height and this suit
abbrev is_card : (Rank → ℕ) → ℕ → ℕ → Card → Bool
is_card height h s card = height card.rank == h && suits_before card.suit == s

-- a card has one suit
in_one_suit : (b : Bool) (suit : Suit) → cond b 1 0 ≡ cond (b && suits_before suit == 0) 1 0 + cond (b && suits_before suit == 1) 1 0 + cond (b && suits_before suit == 2) 1 0 + cond (b && suits_before suit == 3) 1 0
in_one_suit false suit = refl
in_one_suit true suits.C = refl
in_one_suit true suits.D = refl
in_one_suit true suits.H = refl
in_one_suit true suits.S = refl

-- a rank occurs in the four suits
by_suits : (height : Rank → ℕ) (cards : List Card) (h : ℕ) → times height cards h ≡ count_by (is_card height h 0) cards + count_by (is_card height h 1) cards + count_by (is_card height h 2) cards + count_by (is_card height h 3) cards
by_suits height [] h = times-none height h
by_suits height (card ∷ rest) h =
    omega (arith, times-cons height card rest h, by_suits height rest h, in_one_suit (height card.rank == h) card.suit, count_by-cons (is_card height h 0) card rest, count_by-cons (is_card height h 1) card rest, count_by-cons (is_card height h 2) card rest, count_by-cons (is_card height h 3) card rest)

-- only one card has a height and a suit
only_card : (height : Rank → ℕ) → IsHeight height → (h s : ℕ) (first second : Card) → is_card height h s first ≡ true → is_card height h s second ≡ true → first ≡ second
only_card height is h s first second one other =
    let a = and_parts (height first.rank == h) (suits_before first.suit == s) one in
    let b = and_parts (height second.rank == h) (suits_before second.suit == s) other in
    one_card first second
    (sym (is.back first.rank) ∙ ap (rank_with height) (eqb-true (height first.rank) h a.0 ∙ sym (eqb-true (height second.rank) h b.0)) ∙ is.back second.rank)
    (suits_same first.suit second.suit (eqb-true _ _ a.1 ∙ sym (eqb-true _ _ b.1)))

-- a rank occurs at most four times among different cards
pub few_times : (height : Rank → ℕ) → IsHeight height → (cards : List Card) → AllDifferent cards → (h : ℕ) → times height cards h ≤ 4
few_times height is cards different h =
    omega (arith, by_suits height cards h, at_most_one (is_card height h 0) cards different (only_card height is h 0), at_most_one (is_card height h 1) cards different (only_card height is h 1), at_most_one (is_card height h 2) cards different (only_card height is h 2), at_most_one (is_card height h 3) cards different (only_card height is h 3))

-- if all cards have a suit, those of a height are those of the height and the suit
times_in_suit : (height : Rank → ℕ) (cards : List Card) (h s : ℕ) → list_all (λ card. suits_before card.suit == s) cards ≡ true → times height cards h ≡ count_by (is_card height h s) cards
times_in_suit height [] h s all = times-none height h
times_in_suit height (card ∷ rest) h s all =
    let parts = and_parts (suits_before card.suit == s) (list_all (λ other. suits_before other.suit == s) rest) all in
    let here = ap {B = ℕ} (λ b. cond b 1 0) (and_true (height card.rank == h) (suits_before card.suit == s) parts.0) in
    omega (arith, times-cons height card rest h, count_by-cons (is_card height h s) card rest, here, times_in_suit height rest h s parts.1)

-- a rank occurs at most once among different cards of one suit
pub once_in_suit : (height : Rank → ℕ) → IsHeight height → (cards : List Card) → AllDifferent cards → is_one_suit cards ≡ true → (h : ℕ) → times height cards h ≤ 1
once_in_suit height is [] different suited h = absurd (cc)
once_in_suit height is (card ∷ rest) different suited h =
    let s = suits_before card.suit in
    omega (arith, times_in_suit height (card ∷ rest) h s suited, at_most_one (is_card height h s) (card ∷ rest) different (only_card height is h s))

-- if no rank occurs more than once, as many ranks as cards occur once
pub all_once : (height : Rank → ℕ) → IsHeight height → (cards : List Card) → ((h : ℕ) → times height cards h ≤ 1) → (ranks_occurring height cards 4 ≡ 0) × (ranks_occurring height cards 3 ≡ 0) × (ranks_occurring height cards 2 ≡ 0) × (ranks_occurring height cards 1 ≡ length cards)
all_once height is cards once =
    let four = ranks_occurring_count height cards 4 ∙ count_by-none (times height cards) 4 falling_heights once (omega arith) in
    let three = ranks_occurring_count height cards 3 ∙ count_by-none (times height cards) 3 falling_heights once (omega arith) in
    let two = ranks_occurring_count height cards 2 ∙ count_by-none (times height cards) 2 falling_heights once (omega arith) in
    (four, three, two, omega (arith, counted height is cards (λ h. omega (arith, once h)), four, three, two))

-- with the ace high, each rank has one height, and is found by it
high_ace-one : (rank : Rank) → sum_by (λ h. cond (high_ace rank == h) 1 0) falling_heights ≡ 1
unfolding falling_heights
high_ace-one ranks.Two = refl
high_ace-one ranks.Three = refl
high_ace-one ranks.Four = refl
high_ace-one ranks.Five = refl
high_ace-one ranks.Six = refl
high_ace-one ranks.Seven = refl
high_ace-one ranks.Eight = refl
high_ace-one ranks.Nine = refl
high_ace-one ranks.Ten = refl
high_ace-one ranks.Jack = refl
high_ace-one ranks.Queen = refl
high_ace-one ranks.King = refl
high_ace-one ranks.Ace = refl

high_ace-back : (rank : Rank) → rank_with high_ace (high_ace rank) ≡ rank
high_ace-back ranks.Two = refl
high_ace-back ranks.Three = refl
high_ace-back ranks.Four = refl
high_ace-back ranks.Five = refl
high_ace-back ranks.Six = refl
high_ace-back ranks.Seven = refl
high_ace-back ranks.Eight = refl
high_ace-back ranks.Nine = refl
high_ace-back ranks.Ten = refl
high_ace-back ranks.Jack = refl
high_ace-back ranks.Queen = refl
high_ace-back ranks.King = refl
high_ace-back ranks.Ace = refl

pub IsHeight-high_ace : IsHeight high_ace
IsHeight-high_ace = record { one = high_ace-one; back = high_ace-back }

-- with the ace low, each rank has one height, and is found by it
low_ace-one : (rank : Rank) → sum_by (λ h. cond (low_ace rank == h) 1 0) falling_heights ≡ 1
unfolding falling_heights
low_ace-one ranks.Two = refl
low_ace-one ranks.Three = refl
low_ace-one ranks.Four = refl
low_ace-one ranks.Five = refl
low_ace-one ranks.Six = refl
low_ace-one ranks.Seven = refl
low_ace-one ranks.Eight = refl
low_ace-one ranks.Nine = refl
low_ace-one ranks.Ten = refl
low_ace-one ranks.Jack = refl
low_ace-one ranks.Queen = refl
low_ace-one ranks.King = refl
low_ace-one ranks.Ace = refl

low_ace-back : (rank : Rank) → rank_with low_ace (low_ace rank) ≡ rank
low_ace-back ranks.Two = refl
low_ace-back ranks.Three = refl
low_ace-back ranks.Four = refl
low_ace-back ranks.Five = refl
low_ace-back ranks.Six = refl
low_ace-back ranks.Seven = refl
low_ace-back ranks.Eight = refl
low_ace-back ranks.Nine = refl
low_ace-back ranks.Ten = refl
low_ace-back ranks.Jack = refl
low_ace-back ranks.Queen = refl
low_ace-back ranks.King = refl
low_ace-back ranks.Ace = refl

pub IsHeight-low_ace : IsHeight low_ace
IsHeight-low_ace = record { one = low_ace-one; back = low_ace-back }

-- there are at most as many different ranks as cards
pub ranks_of-le : (height : Rank → ℕ) → IsHeight height → (cards : List Card) → length (ranks_of height cards) ≤ length cards
ranks_of-le height is cards =
    omega (arith, length-ranks_of height cards, all_times height is cards, counts-le-sum (times height cards) falling_heights, ranks_occurring_count height cards 4, ranks_occurring_count height cards 3, ranks_occurring_count height cards 2, ranks_occurring_count height cards 1)
