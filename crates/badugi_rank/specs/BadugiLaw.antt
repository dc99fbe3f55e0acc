-- The order of badugi is lawful.
-- This is a proof: no reader needs it.
use Rattle.std.proofs.Common.{◌≡◌, ℕ, zero, suc, ◌+◌, ◌-◌, ◌^◌, ◌<◌, ◌≤◌, ◌==◌, not, Bool, true, cond, List, [], ◌∷◌, ◌++◌, length, get_or, Option, Some, None, IsSome, inl, inr, ◌↔◌, refl, sym, ◌∙◌, ap, subst, arith, eqb-true}
use Rattle.std.specs.List.{list_all}
use Rattle.std.proofs.lemmas.Bool.{and_parts, not-true, or_parts}
use Rattle.std.proofs.lemmas.Option.{cond_some}
use Rattle.card_set.specs.declared.card.Card.{Card}
use Rattle.card_set.specs.Different.{AllDifferent}
use Rattle.card_set.specs.Deck.{suits_before}
use Rattle.card_set.specs.Ranks.{low_ace, ranks_of, times}
use Rattle.card_set.proofs.Counted.{IsHeight-low_ace, all_once, length-ranks_of, times-cons, times-none}
use Rattle.hand_order.specs.Best.{IsPointsOfHolding}
use Rattle.hand_order.specs.Choices.{choices, IsAmong, AreHeld}
use Rattle.hand_order.specs.Digits.{class_above}
use Rattle.hand_order.specs.Order.{IsLawful}
use Rattle.hand_order.proofs.Greatest.{Says, says_greatest, IsAmong-right}
use Rattle.hand_order.proofs.Held.{held_chosen, IsAmong-cases}
use Rattle.hand_order.proofs.Lawful.{greatest_of_holding, beats_exactly, lawful_by_order}
use Rattle.hand_order.proofs.RankDigits.{AreDigits-ranks_of}
use Rattle.hand_order.proofs.Ranked.{IsRanked, ranked_low_law}
use Rattle.badugi_rank.specs.Badugi.{has_in_common, has_nothing_in_common, IsRainbow, IsWeakerChoice, candidates, IsHand, IsWeaker, choice_points, points}
use Rattle.card_set.proofs.Tests.{passes_or_not}
use Rattle.card_set.proofs.Options.{some_where}

-- at most four cards
abbrev pub AreFew : List Card → Type 0
AreFew chosen = length chosen ≤ 4

-- no card of a rank that other cards do not have
lacks_rank : (card : Card) (rest : List Card)
    → list_all (λ other. not (has_in_common card other)) rest ≡ true
    → times low_ace rest (low_ace card.rank) ≡ 0
lacks_rank card [] lacks = times-none low_ace (low_ace card.rank)
lacks_rank card (other ∷ rest) lacks =
    let parts =
    and_parts (not (has_in_common card other))
    (list_all (λ other. not (has_in_common card other)) rest) lacks in
    let apart =
    or_parts (low_ace other.rank == low_ace card.rank)
    (suits_before other.suit == suits_before card.suit)
    (not-true (has_in_common card other) parts.0) in
    let none = ap (λ (b : Bool). cond {A = ℕ} b 1 0) apart.0 in
    omega (
      arith,
      times-cons low_ace other rest (low_ace card.rank),
      none,
      lacks_rank card rest parts.1,
    )

-- no rank occurs twice where all differ
pub once_each : (chosen : List Card) → has_nothing_in_common chosen ≡ true → (h : ℕ)
    → times low_ace chosen h ≤ 1
once_each [] differ h = omega (arith, times-none low_ace h)
once_each (card ∷ rest) differ h =
    let parts =
    and_parts (list_all (λ other. not (has_in_common card other)) rest)
    (has_nothing_in_common rest) differ in
    elim (passes_or_not (low_ace card.rank == h)) [
      | inl same ↦
          let one = ap (λ (b : Bool). cond {A = ℕ} b 1 0) same in
          let none =
          sym (ap (times low_ace rest) (eqb-true (low_ace card.rank) h same))
          ∙ lacks_rank card rest parts.0 in
          omega (arith, times-cons low_ace card rest h, one, none)
      | inr other ↦
          let none = ap (λ (b : Bool). cond {A = ℕ} b 1 0) other in
          omega (arith, times-cons low_ace card rest h, none, once_each rest parts.1 h)
    ]

-- as many ranks as cards decide
rainbow_ranks : (chosen : List Card) → has_nothing_in_common chosen ≡ true
    → length (ranks_of low_ace chosen) ≡ length chosen
rainbow_ranks chosen differ =
    let once = all_once low_ace IsHeight-low_ace chosen (once_each chosen differ) in
    omega (arith, length-ranks_of low_ace chosen, once.0, once.1, once.2, once.3)

-- the number of cards that a choice is short of four
abbrev pub missing_cards : List Card → ℕ
missing_cards chosen = 4 - length chosen

-- how many ranks fewer than four decide, by the number of cards that a choice is short of four
rainbow_missing : List ℕ
rainbow_missing = 0 ∷ 1 ∷ 2 ∷ 3 ∷ 4 ∷ []

-- the ranks of a choice and the cards that it is short of make four
missing_of : (n : ℕ) → n ≤ 4 → n + get_or rainbow_missing (4 - n) 0 ≡ 4
unfolding rainbow_missing
missing_of zero few = refl
missing_of (suc zero) few = refl
missing_of (suc (suc zero)) few = refl
missing_of (suc (suc (suc zero))) few = refl
missing_of (suc (suc (suc (suc zero)))) few = refl
missing_of (suc (suc (suc (suc (suc n))))) few = absurd (omega arith)

-- a choice is ranked by its ranks, the ace low
rainbow_ranked : (chosen : List Card) → AreFew chosen → has_nothing_in_common chosen ≡ true
    → IsRanked missing_cards (ranks_of low_ace) rainbow_missing 4 4 chosen
rainbow_ranked chosen few differ =
    let same = rainbow_ranks chosen differ in
    record {
      within = omega arith;
      long = omega (arith, same, missing_of (length chosen) few);
      few = omega (arith, same);
      digits = AreDigits-ranks_of low_ace chosen;
    }

-- a choice with points counts, and has the points of its ranks
pub choice_value : (chosen : List Card) (value : ℕ) → choice_points chosen ≡ Some value
    → (has_nothing_in_common chosen ≡ true)
    × (16 ^ 6 - class_above (4 - length chosen) (ranks_of low_ace chosen) ≡ value)
choice_value chosen value is =
    cond_some (has_nothing_in_common chosen)
    (16 ^ 6 - class_above (4 - length chosen) (ranks_of low_ace chosen)) value is

-- the points of a choice are less if and only if it is weaker
choice_ordered : (a b : List Card) (low high : ℕ) → AreFew a → AreFew b → choice_points a ≡ Some low
    → choice_points b ≡ Some high → (low < high) ↔ IsWeakerChoice a b
choice_ordered a b low high few_a few_b is_low is_high =
    let is_a = choice_value a low is_low in
    let is_b = choice_value b high is_high in
    let law =
    ranked_low_law missing_cards (ranks_of low_ace) rainbow_missing 4 4 a b (omega arith)
    (rainbow_ranked a few_a is_a.0) (rainbow_ranked b few_b is_b.0) in (
      λ less.
          elim (law.0 (omega (arith, is_a.1, is_b.1))) [
            | inl worse ↦ inl (omega arith)
            | inr rest ↦ let e = rest.0 in inr (omega arith, rest.1)
          ],
      λ worse. let less =
          law.1
          (elim worse [
            | inl fewer ↦ inl (omega arith)
            | inr rest ↦ let e = rest.0 in inr (omega arith, rest.1)
          ])
          in omega (arith, is_a.1, is_b.1),
    )

-- choices are ordered by their points
pub lawful_choices : IsLawful AreFew IsRainbow IsWeakerChoice choice_points
lawful_choices =
    lawful_by_order AreFew IsRainbow IsWeakerChoice choice_points
    (λ chosen few.
    some_where (has_nothing_in_common chosen)
    (16 ^ 6 - class_above (4 - length chosen) (ranks_of low_ace chosen)))
    choice_ordered

-- the choices of a hand have at most four cards
pub few_chosen : (cards chosen : List Card) → AllDifferent cards → IsAmong chosen (candidates cards)
    → AreFew chosen
unfolding candidates
few_chosen cards chosen different among =
    elim
    (IsAmong-cases chosen (choices 4 cards)
    (choices 3 cards ++ (choices 2 cards ++ choices 1 cards)) among) [
      | inl four ↦ omega (arith, (held_chosen 4 cards chosen different four).0)
      | inr fewer ↦
          elim (IsAmong-cases chosen (choices 3 cards) (choices 2 cards ++ choices 1 cards) fewer) [
            | inl three ↦ omega (arith, (held_chosen 3 cards chosen different three).0)
            | inr least ↦ elim (IsAmong-cases chosen (choices 2 cards) (choices 1 cards) least) [
              | inl two ↦ omega (arith, (held_chosen 2 cards chosen different two).0)
              | inr one ↦ omega (arith, (held_chosen 1 cards chosen different one).0)
            ]
          ]
    ]

-- a hand has the points of its best choice
hand_points : (cards : List Card) (most : Option ℕ) → AreHeld 4 cards → points cards ≡ most
    → IsPointsOfHolding IsRainbow IsWeakerChoice choice_points (candidates cards) most
hand_points cards most held is =
    greatest_of_holding AreFew IsRainbow IsWeakerChoice choice_points (candidates cards) most
    lawful_choices (λ choice among. few_chosen cards choice held.1 among) (sym is)

-- the points of a hand are less if and only if it is weaker
hand_ordered : (a b : List Card) (low high : ℕ) → AreHeld 4 a → AreHeld 4 b → points a ≡ Some low
    → points b ≡ Some high → (low < high) ↔ IsWeaker a b
hand_ordered a b low high held_a held_b is_low is_high =
    beats_exactly AreFew IsRainbow IsWeakerChoice choice_points (candidates b) (candidates a)
    (Some high) (Some low) lawful_choices
    (λ choice among. few_chosen b choice held_b.1 among)
    (λ choice among. few_chosen a choice held_a.1 among)
    (hand_points b (Some high) held_b is_high) (hand_points a (Some low) held_a is_low)

-- each hand has a choice of one card
one_chosen : (card : Card) (rest : List Card) → IsAmong (card ∷ []) (candidates (card ∷ rest))
unfolding candidates choices
one_chosen card rest =
    IsAmong-right (card ∷ []) (choices 4 (card ∷ rest))
    (choices 3 (card ∷ rest) ++ (choices 2 (card ∷ rest) ++ choices 1 (card ∷ rest)))
    (IsAmong-right (card ∷ []) (choices 3 (card ∷ rest))
    (choices 2 (card ∷ rest) ++ choices 1 (card ∷ rest))
    (IsAmong-right (card ∷ []) (choices 2 (card ∷ rest)) (choices 1 (card ∷ rest)) (inl refl)))

-- each hand of four cards has points
pub some_points : (cards : List Card) (most : Option ℕ) → AreHeld 4 cards → points cards ≡ most
    → IsSome most
some_points cards (Some value) held is = refl
some_points [] None held is = absurd (omega (arith, held.0))
some_points (card ∷ rest) None held is =
    let none =
    subst (Says choice_points (candidates (card ∷ rest))) is
    (says_greatest choice_points (candidates (card ∷ rest))) in
    let no_points : choice_points (card ∷ []) ≡ None = none (card ∷ []) (one_chosen card rest) in
    absurd (cc)

-- the order of badugi is lawful
pub lawful_badugi : IsLawful (AreHeld 4) IsHand IsWeaker points
lawful_badugi =
    lawful_by_order (AreHeld 4) IsHand IsWeaker points
    (λ cards held. (λ some. tt, λ hand. some_points cards (points cards) held refl))
    hand_ordered
