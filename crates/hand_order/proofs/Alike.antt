-- What depends only on how often ranks occur, on suits and on tests of single cards does not depend
-- on the order of the cards.
use Rattle.std.proofs.Common.{◌≡◌, ℕ, ◌<◌, ◌==◌, ◌&&◌, Bool, true, false, List, [], ◌∷◌, length, Option, refl, sym, ◌∙◌, ap, subst, arith, eqb-true}
use Rattle.std.specs.List.{list_all}
use Rattle.std.proofs.lemmas.Bool.{and_parts}
use Rattle.card_set.specs.declared.card.Card.{Card}
use Rattle.card_set.specs.declared.card.Rank.{Rank}
use Rattle.card_set.specs.CardSet.{AreSameCards, is_one_of}
use Rattle.card_set.specs.Deck.{suits_before}
use Rattle.card_set.specs.Different.{Every, AllDifferent}
use Rattle.card_set.specs.Ranks.{is_one_suit, ranks_occurring, ranks_of}
use Rattle.card_set.proofs.Listing.{occurring-same, ranks_of-same}
use Rattle.hand_order.proofs.SameChoices.{every_one_of, one_of_every}
use Rattle.card_set.proofs.Tests.{same_test}

-- what passes a test
abbrev pub Passes : (Card → Bool) → Card → Type 0
Passes p card = p card ≡ true

pub every_all : (p : Card → Bool) (cards : List Card) → list_all p cards ≡ true → Every (Passes p) cards
every_all p [] all = tt
every_all p (card ∷ rest) all = let parts = and_parts (p card) (list_all p rest) all in (parts.0, every_all p rest parts.1)

pub all_every : (p : Card → Bool) (cards : List Card) → Every (Passes p) cards → list_all p cards ≡ true
all_every p [] every = refl
all_every p (card ∷ rest) every = both (p card) (list_all p rest) every.0 (all_every p rest every.1)
  where
    both : (a b : Bool) → a ≡ true → b ≡ true → (a && b) ≡ true
    both true b one other = other
    both false b one other = one

pub every_map : (P Q : Card → Type 0) → ((card : Card) → P card → Q card) → (cards : List Card) → Every P cards → Every Q cards
every_map P Q turn [] every = tt
every_map P Q turn (card ∷ rest) every = (turn card every.0, every_map P Q turn rest every.1)

-- what holds for each card of a list holds for each of the same cards
pub every_same : (P : Card → Type 0) (a b : List Card) → AreSameCards a b → Every P a → Every P b
every_same P a b same every = every_map (λ card. is_one_of card b ≡ true) P (λ card is. one_of_every P card a every (same card ∙ is)) b (every_one_of b)

-- the same cards are of one suit
suited_same : (a b : List Card) → 0 < length b → AreSameCards a b → is_one_suit a ≡ true → is_one_suit b ≡ true
suited_same [] b some same suited = absurd (cc)
suited_same (card ∷ rest) [] some same suited = absurd (omega arith)
suited_same (card ∷ rest) (first ∷ others) some same suited =
    let every = every_same (Passes (λ other. suits_before other.suit == suits_before card.suit)) (card ∷ rest) (first ∷ others) same (every_all (λ other. suits_before other.suit == suits_before card.suit) (card ∷ rest) suited) in
    let at = eqb-true (suits_before first.suit) (suits_before card.suit) every.0 in
    all_every (λ other. suits_before other.suit == suits_before first.suit) (first ∷ others)
    (subst (λ (s : ℕ). Every (Passes (λ other. suits_before other.suit == s)) (first ∷ others)) (sym at) every)

pub is_one_suit-same : (a b : List Card) → 0 < length a → 0 < length b → AreSameCards a b → is_one_suit a ≡ is_one_suit b
is_one_suit-same a b some_a some_b same = same_test (is_one_suit a) (is_one_suit b) (suited_same a b some_b same) (suited_same b a some_a (λ card. sym (same card)))

-- what depends only on how often ranks occur and on whether the cards are of one suit
pub told_alike : (f : ℕ → ℕ → ℕ → List ℕ → Bool → Option ℕ) (height : Rank → ℕ) (a b : List Card) → AllDifferent a → AllDifferent b → 0 < length a → 0 < length b → AreSameCards a b
    → f (ranks_occurring height a 4) (ranks_occurring height a 3) (ranks_occurring height a 2) (ranks_of height a) (is_one_suit a) ≡ f (ranks_occurring height b 4) (ranks_occurring height b 3) (ranks_occurring height b 2) (ranks_of height b) (is_one_suit b)
told_alike f height a b different_a different_b some_a some_b same =
    let each = λ (n : ℕ). ap (length {A = ℕ}) (occurring-same height a b different_a different_b same n) in
    ap (λ (k : ℕ). f k (ranks_occurring height a 3) (ranks_occurring height a 2) (ranks_of height a) (is_one_suit a)) (each 4)
    ∙ ap (λ (k : ℕ). f (ranks_occurring height b 4) k (ranks_occurring height a 2) (ranks_of height a) (is_one_suit a)) (each 3)
    ∙ ap (λ (k : ℕ). f (ranks_occurring height b 4) (ranks_occurring height b 3) k (ranks_of height a) (is_one_suit a)) (each 2)
    ∙ ap (λ (l : List ℕ). f (ranks_occurring height b 4) (ranks_occurring height b 3) (ranks_occurring height b 2) l (is_one_suit a)) (ranks_of-same height a b different_a different_b same)
    ∙ ap (λ (t : Bool). f (ranks_occurring height b 4) (ranks_occurring height b 3) (ranks_occurring height b 2) (ranks_of height b) t) (is_one_suit-same a b some_a some_b same)
