-- A choice whose ranks and suits all differ has at most one card of each suit, and the other way
-- round.
use Rattle.std.proofs.Common.{◌≡◌, ◌≢◌, ℕ, suc, ◌+◌, ◌<◌, ◌≤◌, ◌==◌, ◌&&◌, ◌||◌, not, Bool, true, false, cond, List, [], ◌∷◌, length, filter, ◌⊎◌, inl, inr, refl, sym, ◌∙◌, ap, subst, arith, eqb-true, eq-eqb}
use Rattle.std.specs.Int.{bit_at}
use Rattle.std.specs.List.{list_all}
use Rattle.std.proofs.lemmas.Bool.{and_parts, cases_lt, ne_eqb, not-true}
use Rattle.std.proofs.lemmas.Nat.Bits.{bit_at_above}
use Rattle.card_set.specs.declared.card.Card.{Card}
use Rattle.card_set.specs.declared.card.Rank.{Rank}
use Rattle.card_set.specs.declared.card.Suit.{Suit}
use Rattle.card_set.specs.declared.set.CardSet.{CardSet}
use Rattle.card_set.specs.CardSet.{is_one_of, IsListing}
use Rattle.card_set.specs.Deck.{ranks_below, suits_before}
use Rattle.card_set.specs.Different.{AllDifferent, Every}
use Rattle.card_set.specs.Ranks.{high_ace, low_ace, times}
use Rattle.card_set.proofs.Counted.{IsHeight-low_ace, rank_with, times-cons, times-none}
use Rattle.card_set.proofs.DeckLaws.{suits_same}
use Rattle.hand_order.proofs.Alike.{Passes, every_all, every_map}
use Rattle.hand_order.proofs.Held.{every_chosen}
use Rattle.hand_order.proofs.RankMasks.{IsMaskOf}
use Rattle.hand_order.proofs.SameChoices.{filter_among}
use Rattle.hand_order.proofs.SetCounts.{height_below, rank_below}
use Rattle.hand_order.proofs.SuitedHands.{every_filter, of_suit}
use Rattle.badugi_rank.specs.Badugi.{has_in_common, has_nothing_in_common}
use Rattle.badugi_rank.proofs.SuitRanks.{IsOneOf}
use Rattle.card_set.proofs.Tests.{passes_or_not, same_test, true_false}

-- if one card has the suit, no other card has it
none_of_suit : (s : ℕ) (card : Card) (rest : List Card) → of_suit s card ≡ true → list_all (λ other. not (has_in_common card other)) rest ≡ true → filter (of_suit s) rest ≡ []
none_of_suit s card [] of apart = refl
none_of_suit s card (other ∷ rest) of apart =
    let parts = and_parts (not (has_in_common card other)) (list_all (λ next. not (has_in_common card next)) rest) apart in
    ap (λ (b : Bool). cond b (other ∷ filter (of_suit s) rest) (filter (of_suit s) rest)) (off (passes_or_not (of_suit s other)) parts.0)
    ∙ none_of_suit s card rest of parts.1
  where
    off : (of_suit s other ≡ true) ⊎ (of_suit s other ≡ false) → not (has_in_common card other) ≡ true → of_suit s other ≡ false
    off (inr is) differ = is
    off (inl is) differ =
        let same = eq-eqb (suits_before other.suit) (suits_before card.suit) (eqb-true _ _ is ∙ sym (eqb-true _ _ of)) in
        let common : has_in_common card other ≡ true = right (low_ace other.rank == low_ace card.rank) (suits_before other.suit == suits_before card.suit) same in
        absurd (true_false (sym common ∙ not-true (has_in_common card other) differ))
      where
        right : (p q : Bool) → q ≡ true → (p || q) ≡ true
        right true q is = refl
        right false q is = is

-- a choice has at most one card of a suit
one_of_suit : (s : ℕ) (cards : List Card) → has_nothing_in_common cards ≡ true → length (filter (of_suit s) cards) ≤ 1
one_of_suit s [] apart = omega arith
one_of_suit s (card ∷ rest) apart =
    let parts = and_parts (list_all (λ other. not (has_in_common card other)) rest) (has_nothing_in_common rest) apart in
    by_test (of_suit s card) refl parts.0 (one_of_suit s rest parts.1)
  where
    by_test : (b : Bool) → of_suit s card ≡ b → list_all (λ other. not (has_in_common card other)) rest ≡ true → length (filter (of_suit s) rest) ≤ 1 → length (cond b (card ∷ filter (of_suit s) rest) (filter (of_suit s) rest)) ≤ 1
    by_test true of apart few = let none = ap (length {A = Card}) (none_of_suit s card rest of apart) in omega arith
    by_test false of apart few = few

-- the set has the card
abbrev AreOf : List Card → List Card → Type 0
AreOf listing cards = Every (λ card. is_one_of card listing ≡ true) cards

suit_card : (card : Card) (suit : Suit) → of_suit (suits_before suit) card ≡ true → card ≡ record { rank = card.rank; suit = suit }
suit_card card suit of = ap (λ (s : Suit). card_with card.rank s) (suits_same card.suit suit (eqb-true _ _ of))
  where
    card_with : Rank → Suit → Card
    card_with rank suit = record { rank = rank; suit = suit }

two_more : (a k : ℕ) → (a + 2 == k + 2) ≡ (a == k)
two_more a k = same_test (a + 2 == k + 2) (a == k) (λ is. let e = eqb-true (a + 2) (k + 2) is in eq-eqb a k (omega arith)) (λ is. let e = eqb-true a k is in eq-eqb (a + 2) (k + 2) (omega arith))

height_test : (rank : Rank) (k : ℕ) → cond {A = ℕ} (high_ace rank == k + 2) 1 0 ≡ cond (ranks_below rank == k) 1 0
height_test rank k = ap (λ (h : ℕ). cond {A = ℕ} (h == k + 2) 1 0) (height_below rank) ∙ ap (λ (b : Bool). cond {A = ℕ} b 1 0) (two_more (ranks_below rank) k)

-- the cards of a suit are one of its mask, or none
cards_one : (set : CardSet) (listing : List Card) (suit : Suit) (mask : ℕ) (cards : List Card) → IsListing set listing → IsMaskOf set mask suit → Every (Passes (of_suit (suits_before suit))) cards → AreOf listing cards → length cards ≤ 1 → IsOneOf mask (λ k. times high_ace cards (k + 2))
cards_one set listing suit mask [] lists is of inside few = inl (λ k. times-none high_ace (k + 2))
cards_one set listing suit mask (card ∷ []) lists is of inside few =
    let there = subst (λ (c : Card). is_one_of c listing ≡ true) (suit_card card suit of.0) inside.0 in
    inr (
      ranks_below card.rank,
      eqb-true (bit_at mask (ranks_below card.rank)) 1 (is.each card.rank ∙ lists.same (record { rank = card.rank; suit = suit }) ∙ there),
      λ k. omega (arith, times-cons high_ace card [] (k + 2), times-none high_ace (k + 2), height_test card.rank k),
    )
cards_one set listing suit mask (card ∷ other ∷ rest) lists is of inside few = absurd (omega arith)

pub suit_one : (set : CardSet) (listing : List Card) (suit : Suit) (mask : ℕ) (cards : List Card) → IsListing set listing → IsMaskOf set mask suit → has_nothing_in_common cards ≡ true → AreOf listing cards → IsOneOf mask (λ k. times high_ace (filter (of_suit (suits_before suit)) cards) (k + 2))
suit_one set listing suit mask cards lists is apart inside =
    let kept = filter (of_suit (suits_before suit)) cards in
    cards_one set listing suit mask kept lists is (every_filter (of_suit (suits_before suit)) cards)
    (every_chosen (λ card. is_one_of card listing ≡ true) (length kept) cards kept (filter_among (of_suit (suits_before suit)) cards) inside)
    (one_of_suit (suits_before suit) cards apart)

-- cards of the suits from one on, with these ranks
pub record IsMade (listing : List Card) (from : ℕ) (f : ℕ → ℕ) : Type 0 where
  pub cards : List Card
  pub apart : has_nothing_in_common cards ≡ true
  pub above : Every (λ card. from ≤ suits_before card.suit) cards
  pub inside : AreOf listing cards
  pub counts : (k : ℕ) → times high_ace cards (k + 2) ≡ f k
  pub few : length cards + from ≤ 4

pub none_made : (listing : List Card) → IsMade listing 4 (λ k. 0)
none_made listing = record { cards = []; apart = refl; above = tt; inside = tt; counts = λ k. times-none high_ace (k + 2); few = omega arith }

-- ranks of the same low height are the same
rank_same : (a b : Rank) → low_ace a ≡ low_ace b → a ≡ b
rank_same a b same = sym (IsHeight-low_ace.back a) ∙ ap (rank_with low_ace) same ∙ IsHeight-low_ace.back b

-- a card whose suit comes before those of the others, and of another rank, has nothing in common
-- with them
apart_from : (card : Card) (cards : List Card) → Every (λ other. suits_before card.suit < suits_before other.suit) cards → times high_ace cards (high_ace card.rank) ≡ 0 → list_all (λ other. not (has_in_common card other)) cards ≡ true
apart_from card [] above none = refl
apart_from card (other ∷ rest) above none =
    let cons = times-cons high_ace other rest (high_ace card.rank) in
    both (not (has_in_common card other)) (list_all (λ next. not (has_in_common card next)) rest)
    (ap not (neither (low_ace other.rank == low_ace card.rank) (suits_before other.suit == suits_before card.suit)
    (ne_eqb (low_ace other.rank) (low_ace card.rank) (λ same. let one = ap (λ (b : Bool). cond {A = ℕ} b 1 0) (eq-eqb (high_ace other.rank) (high_ace card.rank) (ap high_ace (rank_same other.rank card.rank same))) in omega arith))
    (ne_eqb (suits_before other.suit) (suits_before card.suit) (λ same. omega (arith, above.0)))))
    (apart_from card rest above.1 (omega arith))
  where
    neither : (p q : Bool) → p ≡ false → q ≡ false → (p || q) ≡ false
    neither true q one second = absurd (cc)
    neither false q one second = second

    both : (p q : Bool) → p ≡ true → q ≡ true → (p && q) ≡ true
    both true q one second = second
    both false q one second = absurd (cc)

-- one more card of the suit before
pub suit_made : (set : CardSet) (listing : List Card) (suit : Suit) (mask from : ℕ) (f g : ℕ → ℕ) → IsListing set listing → IsMaskOf set mask suit → suits_before suit ≡ from → IsMade listing (suc from) f → IsOneOf mask g → ((k : ℕ) → g k + f k ≤ 1) → IsMade listing from (λ k. g k + f k)
suit_made set listing suit mask from f g lists is at made (inl none) once = record {
  cards = made.cards;
  apart = made.apart;
  above = every_map (λ card. suc from ≤ suits_before card.suit) (λ card. from ≤ suits_before card.suit) (λ card above. omega (arith, above)) made.cards made.above;
  inside = made.inside;
  counts = λ k. omega (arith, made.counts k, none k);
  few = omega (arith, made.few);
}
suit_made set listing suit mask from f g lists is at made (inr one) once =
    let within : one.0 < 13 = elim (cases_lt one.0 13) [ inl few ↦ few | inr past ↦ absurd (omega (arith, one.1, bit_at_above mask 13 one.0 is.within past)) ] in
    let rank = rank_below one.0 within in
    let card : Card = record { rank = rank.0; suit = suit } in
    let set_bit = eq-eqb (bit_at mask (ranks_below rank.0)) 1 (ap (bit_at mask) rank.1 ∙ one.1) in
    let itself = ap (λ (b : Bool). cond {A = ℕ} b 1 0) (eq-eqb one.0 one.0 refl) in
    let free : times high_ace made.cards (one.0 + 2) ≡ 0 = omega (arith, made.counts one.0, one.2 one.0, itself, once one.0) in
    let height : high_ace rank.0 ≡ one.0 + 2 = height_below rank.0 ∙ ap (λ (n : ℕ). n + 2) rank.1 in
    record {
      cards = card ∷ made.cards;
      apart = both (list_all (λ other. not (has_in_common card other)) made.cards) (has_nothing_in_common made.cards)
          (apart_from card made.cards (every_map (λ other. suc from ≤ suits_before other.suit) (λ other. suits_before suit < suits_before other.suit) (λ other above. omega (arith, above, at)) made.cards made.above) (ap (times high_ace made.cards) height ∙ free))
          made.apart;
      above = (omega (arith, at), every_map (λ other. suc from ≤ suits_before other.suit) (λ other. from ≤ suits_before other.suit) (λ other above. omega (arith, above)) made.cards made.above);
      inside = (sym (lists.same card) ∙ sym (is.each rank.0) ∙ set_bit, made.inside);
      counts = λ k. omega (arith, times-cons high_ace card made.cards (k + 2), made.counts k, one.2 k, height_test rank.0 k, ap (λ (n : ℕ). cond {A = ℕ} (n == k) 1 0) rank.1);
      few = omega (arith, made.few);
    }
  where
    both : (p q : Bool) → p ≡ true → q ≡ true → (p && q) ≡ true
    both true q one second = second
    both false q one second = absurd (cc)

-- cards with nothing in common are different
pub apart_different : (cards : List Card) → has_nothing_in_common cards ≡ true → AllDifferent cards
apart_different [] apart = tt
apart_different (card ∷ rest) apart =
    let parts = and_parts (list_all (λ other. not (has_in_common card other)) rest) (has_nothing_in_common rest) apart in (
      every_map (Passes (λ other. not (has_in_common card other))) (λ other. card ≢ other) (λ other differ same. clash (subst (λ (c : Card). not (has_in_common card c) ≡ true) (sym same) differ)) rest (every_all (λ other. not (has_in_common card other)) rest parts.0),
      apart_different rest parts.1,
    )
  where
    clash : not (has_in_common card card) ≡ true → ⊥
    clash differ =
        let common = ap (λ (b : Bool). b || (suits_before card.suit == suits_before card.suit)) (eq-eqb (low_ace card.rank) (low_ace card.rank) refl) in
        true_false (sym common ∙ not-true (has_in_common card card) differ)
