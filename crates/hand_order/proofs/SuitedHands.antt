-- Choices of one suit are the choices of the cards of that suit.
use Rattle.std.proofs.Common.{◌≡◌, ℕ, zero, suc, ◌≤◌, ◌==◌, Bool, true, false, cond, List, [], ◌∷◌, length, filter, inl, inr, refl, sym, subst, arith, eqb-true}
use Rattle.card_set.specs.declared.card.Card.{Card}
use Rattle.card_set.specs.Deck.{suits_before}
use Rattle.card_set.specs.Different.{Every, AllDifferent}
use Rattle.card_set.specs.Ranks.{times, ranks_of, ranks_occurring, high_ace, is_one_suit}
use Rattle.card_set.proofs.Counted.{IsHeight-high_ace}
use Rattle.hand_order.specs.declared.ladder.FlushRank.TheVariants as flushes
use Rattle.hand_order.specs.Choices.{choices, IsAmong, AreHeld}
use Rattle.hand_order.specs.Digits.{with_digits}
use Rattle.hand_order.proofs.Digits.{AreDigits}
use Rattle.hand_order.proofs.Held.{choice_cases, one_choice, every_chosen, held_chosen}
use Rattle.hand_order.proofs.HighLaw.{five_cards}
use Rattle.hand_order.proofs.Alike.{Passes, all_every, every_all}
use Rattle.hand_order.proofs.SameChoices.{none_chosen, with_first, without_first}
use Rattle.hand_order.proofs.FittingChoices.{fitting}
use Rattle.hand_order.proofs.PlainHands.{class_of, plain_least, ones_alone}
use Rattle.hand_order.specs.Patterns.{without, Fits, plain_class, pattern}

-- a choice of cards that pass is a choice of the cards
pub filter_chosen : (p : Card → Bool) (n : ℕ) (cards choice : List Card) → IsAmong choice (choices n (filter p cards)) → IsAmong choice (choices n cards)
filter_chosen p zero cards choice among = subst (λ (l : List Card). IsAmong l (choices 0 cards)) (sym (one_choice (filter p cards) choice among)) (none_chosen cards)
filter_chosen p (suc n) [] choice among = among
filter_chosen p (suc n) (card ∷ rest) choice among =
    by_test (p card) (λ c is. filter_chosen p n rest c is) (λ c is. filter_chosen p (suc n) rest c is) among
  where
    by_test : (b : Bool) → ((c : List Card) → IsAmong c (choices n (filter p rest)) → IsAmong c (choices n rest)) → ((c : List Card) → IsAmong c (choices (suc n) (filter p rest)) → IsAmong c (choices (suc n) rest)) → IsAmong choice (choices (suc n) (cond b (card ∷ filter p rest) (filter p rest))) → IsAmong choice (choices (suc n) (card ∷ rest))
    by_test true fewer same is = elim (choice_cases n card (filter p rest) choice is) [
      | inl with ↦ subst (λ (l : List Card). IsAmong l (choices (suc n) (card ∷ rest))) (sym with.made) (with_first n card rest with.origin (fewer with.origin with.among))
      | inr without ↦ without_first (suc n) card rest choice (same choice without)
    ]
    by_test false fewer same is = without_first (suc n) card rest choice (same choice is)

-- and a choice of cards that pass is a choice of those that pass
pub chosen_filter : (p : Card → Bool) (n : ℕ) (cards choice : List Card) → Every (Passes p) choice → IsAmong choice (choices n cards) → IsAmong choice (choices n (filter p cards))
chosen_filter p zero cards choice every among = subst (λ (l : List Card). IsAmong l (choices 0 (filter p cards))) (sym (one_choice cards choice among)) (none_chosen (filter p cards))
chosen_filter p (suc n) [] choice every among = among
chosen_filter p (suc n) (card ∷ rest) choice every among =
    elim (choice_cases n card rest choice among) [
      | inl with ↦
          let both = subst (Every (Passes p)) with.made every in
          let inside = with_first n card (filter p rest) with.origin (chosen_filter p n rest with.origin both.1 with.among) in
          subst (λ (b : Bool). IsAmong choice (choices (suc n) (cond b (card ∷ filter p rest) (filter p rest)))) (sym both.0)
          (subst (λ (l : List Card). IsAmong l (choices (suc n) (card ∷ filter p rest))) (sym with.made) inside)
      | inr without ↦ more (p card) (chosen_filter p (suc n) rest choice every without)
    ]
  where
    more : (b : Bool) → IsAmong choice (choices (suc n) (filter p rest)) → IsAmong choice (choices (suc n) (cond b (card ∷ filter p rest) (filter p rest)))
    more true is = without_first (suc n) card (filter p rest) choice is
    more false is = is

-- each card that is kept passes
pub every_filter : (p : Card → Bool) (cards : List Card) → Every (Passes p) (filter p cards)
every_filter p [] = tt
every_filter p (card ∷ rest) = by_test (p card) refl (every_filter p rest)
  where
    by_test : (b : Bool) → p card ≡ b → Every (Passes p) (filter p rest) → Every (Passes p) (cond b (card ∷ filter p rest) (filter p rest))
    by_test true is every = (is, every)
    by_test false is every = every

-- the card is of the suit
abbrev pub of_suit : ℕ → Card → Bool
of_suit s card = suits_before card.suit == s

-- cards of one suit have the suit of the first
pub suited_every : (card : Card) (rest : List Card) → is_one_suit (card ∷ rest) ≡ true → Every (Passes (of_suit (suits_before card.suit))) (card ∷ rest)
suited_every card rest suited = every_all (of_suit (suits_before card.suit)) (card ∷ rest) suited

pub every_suited : (s : ℕ) (card : Card) (rest : List Card) → Every (Passes (of_suit s)) (card ∷ rest) → is_one_suit (card ∷ rest) ≡ true
every_suited s card rest every =
    let same = eqb-true (suits_before card.suit) s every.0 in
    all_every (of_suit (suits_before card.suit)) (card ∷ rest) (subst (λ (n : ℕ). Every (Passes (of_suit n)) (card ∷ rest)) (sym same) every)

-- cards of one suit have five ranks
pub suited_class : (cards : List Card) → AreHeld 5 cards → is_one_suit cards ≡ true → class_of cards ≡ 0
suited_class cards held suited =
    let five = five_cards cards held in
    let ones = five.flushes suited in
    let all = five.all in
    none_of (ranks_occurring high_ace cards 4) (ranks_occurring high_ace cards 3) (ranks_occurring high_ace cards 2) (omega arith) (omega arith) (omega arith)
  where
    none_of : (four three two : ℕ) → four ≡ 0 → three ≡ 0 → two ≡ 0 → plain_class four three two ≡ 0
    none_of zero zero zero a b c = refl
    none_of (suc n) three two a b c = absurd (omega arith)
    none_of zero (suc n) two a b c = absurd (omega arith)
    none_of zero zero (suc n) a b c = absurd (omega arith)

-- and the ranks of some choice of the suit are as good
pub record IsSuited (s : ℕ) (cards : List Card) (hs : List ℕ) : Type 0 where
  pub choice : List Card
  pub among : IsAmong choice (choices 5 cards)
  pub held : AreHeld 5 choice
  pub suited : is_one_suit choice ≡ true
  pub fits : Fits (times high_ace choice) (pattern 0) hs
  pub reached : with_digits 0 hs ≤ with_digits 0 (ranks_of high_ace choice)

pub suited_reached : (s : ℕ) (cards : List Card) (hs : List ℕ) → AllDifferent cards → Fits (times high_ace (filter (of_suit s) cards)) (pattern 0) hs → AreDigits hs → IsSuited s cards hs
suited_reached s cards hs different fits digits =
    let found = fitting high_ace IsHeight-high_ace (pattern 0) hs (filter (of_suit s) cards) ones_alone.some fits in
    let among = filter_chosen (of_suit s) 5 cards found.choice found.among in
    let held = held_chosen 5 cards found.choice different among in
    let every = every_chosen (Passes (of_suit s)) 5 (filter (of_suit s) cards) found.choice found.among (every_filter (of_suit s) cards) in
    let suited = suited_by s found.choice held.0 every in
    let least = plain_least flushes.BelowFullHouse found.choice 0 hs held ones_alone found.fits digits in
    let class = suited_class found.choice held suited in
    record { choice = found.choice; among = among; held = held; suited = suited; fits = found.fits; reached = omega (arith, least, class) }
  where
    suited_by : (s : ℕ) (choice : List Card) → length choice ≡ 5 → Every (Passes (of_suit s)) choice → is_one_suit choice ≡ true
    suited_by s [] long every = absurd (omega arith)
    suited_by s (card ∷ rest) long every = every_suited s card rest every
