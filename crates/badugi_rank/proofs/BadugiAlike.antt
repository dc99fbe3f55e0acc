-- The points of a choice do not depend on the order of its cards.
use Rattle.std.proofs.Common.{◌≡◌, ◌-◌, ◌^◌, ◌||◌, ◌==◌, ℕ, not, Bool, true, false, cond, List, [], ◌∷◌, length, Some, None, ◌⊎◌, inl, inr, refl, sym, ◌∙◌, ap, subst, eqb-true, eq-eqb}
use Rattle.std.specs.List.{list_all}
use Rattle.std.proofs.lemmas.Bool.{and_parts, or_cases}
use Rattle.card_set.specs.declared.card.Card.{Card}
use Rattle.card_set.specs.CardSet.{AreSameCards, is_one_of}
use Rattle.card_set.specs.Deck.{is_same_card, suits_before}
use Rattle.card_set.specs.Different.{AllDifferent}
use Rattle.card_set.specs.Ranks.{low_ace, ranks_of}
use Rattle.card_set.proofs.DeckLaws.{is_same_card-self, is_same_card-true}
use Rattle.card_set.proofs.Listing.{lacks_one_of, ranks_of-same}
use Rattle.hand_order.specs.Choices.{AreAlike}
use Rattle.hand_order.specs.Digits.{class_above}
use Rattle.hand_order.proofs.Alike.{Passes, all_every, every_all, every_map}
use Rattle.hand_order.proofs.SameChoices.{every_one_of, one_of_every}
use Rattle.badugi_rank.specs.Badugi.{choice_points, has_in_common, has_nothing_in_common}
use Rattle.card_set.proofs.Tests.{or_right, passes_or_not, same_test, both_true, not_and_is}

-- if cards that have something in common are the same card
abbrev AreApart : List Card → Type 0
AreApart cards = (a b : Card) → is_one_of a cards ≡ true → is_one_of b cards ≡ true → has_in_common a b ≡ true → a ≡ b

common_sym : (a b : Card) → has_in_common a b ≡ true → has_in_common b a ≡ true
common_sym a b is =
    elim (or_cases (low_ace b.rank == low_ace a.rank) (suits_before b.suit == suits_before a.suit) is) [
      | inl rank ↦ left (low_ace a.rank == low_ace b.rank) (suits_before a.suit == suits_before b.suit) (eq-eqb (low_ace a.rank) (low_ace b.rank) (sym (eqb-true (low_ace b.rank) (low_ace a.rank) rank)))
      | inr suit ↦ right (low_ace a.rank == low_ace b.rank) (suits_before a.suit == suits_before b.suit) (eq-eqb (suits_before a.suit) (suits_before b.suit) (sym (eqb-true (suits_before b.suit) (suits_before a.suit) suit)))
    ]
  where
    left : (p q : Bool) → p ≡ true → (p || q) ≡ true
    left true q is = refl
    left false q is = absurd (cc)

    right : (p q : Bool) → q ≡ true → (p || q) ≡ true
    right true q is = refl
    right false q is = is

apart_from : (cards : List Card) → has_nothing_in_common cards ≡ true → AreApart cards
apart_from [] nothing a b one other common = absurd (cc)
apart_from (card ∷ rest) nothing a b one other common =
    let parts = and_parts (list_all (λ next. not (has_in_common card next)) rest) (has_nothing_in_common rest) nothing in
    let every = every_all (λ next. not (has_in_common card next)) rest parts.0 in
    elim (or_cases (is_same_card card a) (is_one_of a rest) one) [
      | inl first ↦ elim (or_cases (is_same_card card b) (is_one_of b rest) other) [
        | inl second ↦ sym (is_same_card-true card a first) ∙ is_same_card-true card b second
        | inr later ↦
            let apart = one_of_every (Passes (λ next. not (has_in_common card next))) b rest every later in
            absurd (not_and_is (has_in_common card b) apart (subst (λ (c : Card). has_in_common c b ≡ true) (sym (is_same_card-true card a first)) common))
      ]
      | inr early ↦ elim (or_cases (is_same_card card b) (is_one_of b rest) other) [
        | inl second ↦
            let apart = one_of_every (Passes (λ next. not (has_in_common card next))) a rest every early in
            absurd (not_and_is (has_in_common card a) apart (common_sym a card (subst (λ (c : Card). has_in_common a c ≡ true) (sym (is_same_card-true card b second)) common)))
        | inr later ↦ apart_from rest parts.1 a b early later common
      ]
    ]

nothing_from : (cards : List Card) → AllDifferent cards → AreApart cards → has_nothing_in_common cards ≡ true
nothing_from [] different apart = refl
nothing_from (card ∷ rest) different apart =
    both_true (list_all (λ next. not (has_in_common card next)) rest) (has_nothing_in_common rest)
    (all_every (λ next. not (has_in_common card next)) rest (every_map (λ next. is_one_of next rest ≡ true) (Passes (λ next. not (has_in_common card next))) (λ next is. by_test next is (passes_or_not (has_in_common card next))) rest (every_one_of rest)))
    (nothing_from rest different.1 (λ a b one other common. apart a b (or_right (is_same_card card a) (is_one_of a rest) one) (or_right (is_same_card card b) (is_one_of b rest) other) common))
  where
    first : is_one_of card (card ∷ rest) ≡ true
    first = ap (λ (b : Bool). b || is_one_of card rest) (is_same_card-self card)

    by_test : (next : Card) → is_one_of next rest ≡ true → (has_in_common card next ≡ true) ⊎ (has_in_common card next ≡ false) → not (has_in_common card next) ≡ true
    by_test next is (inl common) =
        let same = apart card next first (or_right (is_same_card card next) (is_one_of next rest) is) common in
        let lacks = lacks_one_of card rest different.0 in
        let there = subst (λ (c : Card). is_one_of c rest ≡ true) (sym same) is in
        absurd (cc)
    by_test next is (inr none) = ap not none

nothing_same : (a b : List Card) → AllDifferent b → AreSameCards a b → has_nothing_in_common a ≡ true → has_nothing_in_common b ≡ true
nothing_same a b different same nothing = nothing_from b different (λ x y one other common. apart_from a nothing x y (same x ∙ one) (same y ∙ other) common)

pub choice_alike : (n : ℕ) → AreAlike choice_points n
choice_alike n a b held_a held_b same =
    ap (λ (t : Bool). cond t (Some (16 ^ 6 - class_above (4 - length a) (ranks_of low_ace a))) None) (same_test (has_nothing_in_common a) (has_nothing_in_common b) (nothing_same a b held_b.1 same) (nothing_same b a held_a.1 (λ card. sym (same card))))
    ∙ ap (λ (k : ℕ). cond (has_nothing_in_common b) (Some (16 ^ 6 - class_above (4 - k) (ranks_of low_ace a))) None) (held_a.0 ∙ sym held_b.0)
    ∙ ap (λ (l : List ℕ). cond (has_nothing_in_common b) (Some (16 ^ 6 - class_above (4 - length b) l)) None) (ranks_of-same low_ace a b held_a.1 held_b.1 same)
