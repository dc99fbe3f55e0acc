-- The bits of a set are the counts of the cards that it lists, suit by suit.
use Rattle.std.proofs.Common.{◌≡◌, ◌↔◌, ℕ, zero, suc, ◌+◌, ◌^◌, ◌<◌, ◌≤◌, ◌==◌, ◌||◌, Bool, true, false, cond, List, [], ◌∷◌, length, filter, inl, inr, refl, sym, ◌∙◌, ap, subst, arith, eqb-true, eq-eqb}
use Rattle.std.specs.Int.{bit_at}
use Rattle.std.proofs.lemmas.Bool.{cases_lt, eqb-false, ne_eqb}
use Rattle.std.proofs.lemmas.Nat.Bits.{bit_at-lt, bit_at_above}
use Rattle.card_set.specs.declared.card.Card.{Card}
use Rattle.card_set.specs.declared.card.Rank.{Rank}
use Rattle.card_set.specs.declared.card.Rank.TheVariants as ranks
use Rattle.card_set.specs.declared.card.Suit.{Suit}
use Rattle.card_set.specs.declared.card.Suit.TheVariants as suits
use Rattle.card_set.specs.Deck.{ranks_below, suits_before, is_same_card}
use Rattle.card_set.specs.Different.{Lacks, AllDifferent}
use Rattle.card_set.specs.Ranks.{times, high_ace}
use Rattle.card_set.proofs.Counted.{IsHeight-high_ace, times-none, times-cons, few_times, all_times}
use Rattle.card_set.proofs.DeckLaws.{is_same_card-true}
use Rattle.card_set.specs.declared.set.CardSet.{CardSet}
use Rattle.card_set.specs.CardSet.{is_in, is_one_of, IsListing}
use Rattle.card_set.proofs.Listing.{lacks_one_of}
use Rattle.hand_order.specs.Patterns.{AreCounts}
use Rattle.hand_order.proofs.FittingChoices.{times_of_ranks}
use Rattle.hand_order.specs.Tops.{Shows}
use Rattle.hand_order.proofs.OwnRanks.{InRange-high_ace}
use Rattle.hand_order.proofs.SuitedHands.{of_suit}
use Rattle.card_set.proofs.Tests.{passes_or_not}

-- the height of a rank is two more than the ranks below it
pub height_below : (rank : Rank) → high_ace rank ≡ ranks_below rank + 2
height_below ranks.Two = refl
height_below ranks.Three = refl
height_below ranks.Four = refl
height_below ranks.Five = refl
height_below ranks.Six = refl
height_below ranks.Seven = refl
height_below ranks.Eight = refl
height_below ranks.Nine = refl
height_below ranks.Ten = refl
height_below ranks.Jack = refl
height_below ranks.Queen = refl
height_below ranks.King = refl
height_below ranks.Ace = refl

-- among different cards, a rank of a suit occurs at most once
pub suit_once : (card : Card) (cards : List Card) → AllDifferent cards → times high_ace (filter (of_suit (suits_before card.suit)) cards) (high_ace card.rank) ≡ cond (is_one_of card cards) 1 0
suit_once card [] different = times-none high_ace (high_ace card.rank)
suit_once card (first ∷ rest) different =
    let later = suit_once card rest different.1 in
    elim (passes_or_not (is_same_card first card)) [
      | inl same ↦
          let is = is_same_card-true first card same in
          let lacks = lacks_one_of card rest (subst (λ (c : Card). Lacks c rest) is different.0) in
          let kept : of_suit (suits_before card.suit) first ≡ true = ap (λ (c : Card). suits_before c.suit == suits_before card.suit) is ∙ eq-eqb (suits_before card.suit) (suits_before card.suit) refl in
          let here = ap (λ (c : Card). cond {A = ℕ} (high_ace c.rank == high_ace card.rank) 1 0) is ∙ ap (λ (b : Bool). cond {A = ℕ} b 1 0) (eq-eqb (high_ace card.rank) (high_ace card.rank) refl) in
          let none = ap (λ (b : Bool). cond {A = ℕ} b 1 0) lacks in
          ap (λ (b : Bool). times high_ace (cond b (first ∷ filter (of_suit (suits_before card.suit)) rest) (filter (of_suit (suits_before card.suit)) rest)) (high_ace card.rank)) kept
          ∙ times-cons high_ace first (filter (of_suit (suits_before card.suit)) rest) (high_ace card.rank)
          ∙ omega (arith, here, later, none)
          ∙ sym (ap (λ (b : Bool). cond {A = ℕ} (b || is_one_of card rest) 1 0) same)
      | inr apart ↦ by_suit (of_suit (suits_before card.suit) first) refl apart later ∙ sym (ap (λ (b : Bool). cond {A = ℕ} (b || is_one_of card rest) 1 0) apart)
    ]
  where
    by_suit : (b : Bool) → of_suit (suits_before card.suit) first ≡ b → is_same_card first card ≡ false → times high_ace (filter (of_suit (suits_before card.suit)) rest) (high_ace card.rank) ≡ cond (is_one_of card rest) 1 0 → times high_ace (cond b (first ∷ filter (of_suit (suits_before card.suit)) rest) (filter (of_suit (suits_before card.suit)) rest)) (high_ace card.rank) ≡ cond (is_one_of card rest) 1 0
    by_suit false other apart later = later
    by_suit true is apart later =
        let suit = eqb-true (suits_before first.suit) (suits_before card.suit) is in
        let off : (high_ace first.rank == high_ace card.rank) ≡ false = ne_eqb (high_ace first.rank) (high_ace card.rank) (λ same. eqb-false _ _ apart (omega (arith, suit, height_below first.rank, height_below card.rank))) in
        let none = ap (λ (b : Bool). cond {A = ℕ} b 1 0) off in
        times-cons high_ace first (filter (of_suit (suits_before card.suit)) rest) (high_ace card.rank) ∙ omega (arith, none, later)

-- among different cards, a rank of a suit occurs once if and only if its card is among them
pub rank_once : (card : Card) (cards : List Card) → AllDifferent cards → times high_ace (filter (of_suit (suits_before card.suit)) cards) (ranks_below card.rank + 2) ≡ cond (is_one_of card cards) 1 0
rank_once card cards different = sym (ap (times high_ace (filter (of_suit (suits_before card.suit)) cards)) (height_below card.rank)) ∙ suit_once card cards different

-- the cards of a height are those of the four suits
suit_step : (card : Card) (rest : List Card) (h : ℕ) (suit : Suit) → times high_ace (card ∷ rest) h ≡ cond (high_ace card.rank == h) 1 0 + times high_ace rest h → times high_ace rest h ≡ times high_ace (filter (of_suit 0) rest) h + times high_ace (filter (of_suit 1) rest) h + times high_ace (filter (of_suit 2) rest) h + times high_ace (filter (of_suit 3) rest) h
    → times high_ace (card ∷ rest) h ≡ times high_ace (cond (suits_before suit == 0) (card ∷ filter (of_suit 0) rest) (filter (of_suit 0) rest)) h + times high_ace (cond (suits_before suit == 1) (card ∷ filter (of_suit 1) rest) (filter (of_suit 1) rest)) h + times high_ace (cond (suits_before suit == 2) (card ∷ filter (of_suit 2) rest) (filter (of_suit 2) rest)) h + times high_ace (cond (suits_before suit == 3) (card ∷ filter (of_suit 3) rest) (filter (of_suit 3) rest)) h
suit_step card rest h suits.C one all = omega (arith, times-cons high_ace card (filter (of_suit 0) rest) h)
suit_step card rest h suits.D one all = omega (arith, times-cons high_ace card (filter (of_suit 1) rest) h)
suit_step card rest h suits.H one all = omega (arith, times-cons high_ace card (filter (of_suit 2) rest) h)
suit_step card rest h suits.S one all = omega (arith, times-cons high_ace card (filter (of_suit 3) rest) h)

pub four_suits : (cards : List Card) (h : ℕ) → times high_ace cards h ≡ times high_ace (filter (of_suit 0) cards) h + times high_ace (filter (of_suit 1) cards) h + times high_ace (filter (of_suit 2) cards) h + times high_ace (filter (of_suit 3) cards) h
four_suits [] h = omega (arith, times-none high_ace h)
four_suits (card ∷ rest) h = suit_step card rest h card.suit (times-cons high_ace card rest h) (four_suits rest h)

-- at least five different cards have counts
pub are_counts : (cards : List Card) → AllDifferent cards → 5 ≤ length cards → AreCounts (times high_ace cards)
are_counts cards different five = record {
  ranked = times_of_ranks high_ace cards;
  four = few_times high_ace IsHeight-high_ace cards different;
  five = omega (arith, all_times high_ace IsHeight-high_ace cards);
}

-- heights of cards are at least two and at most fourteen
pub height_least : (cards : List Card) (h : ℕ) → 0 < times high_ace cards h → (2 ≤ h) × (h ≤ 14)
height_least cards h some = let of = times_of_ranks high_ace cards h some in (omega (arith, of.1, height_below of.0), omega (arith, of.1, (InRange-high_ace of.0).1))

-- a mask of levels shows the counts of the cards
pub level_shows : (cards : List Card) (c d h s level n : ℕ) → 0 < n → level < 2 ^ 16 → ((k : ℕ) → bit_at c k ≡ times high_ace (filter (of_suit 0) cards) (k + 2)) → ((k : ℕ) → bit_at d k ≡ times high_ace (filter (of_suit 1) cards) (k + 2)) → ((k : ℕ) → bit_at h k ≡ times high_ace (filter (of_suit 2) cards) (k + 2)) → ((k : ℕ) → bit_at s k ≡ times high_ace (filter (of_suit 3) cards) (k + 2))
    → ((k : ℕ) → (bit_at level k ≡ 1) ↔ (n ≤ bit_at c k + bit_at d k + bit_at h k + bit_at s k)) → Shows level n (times high_ace cards)
level_shows cards c d h s level n positive small clubs diamonds hearts spades bits = record {
  each = λ k. (
    λ set. omega (arith, (bits k).0 set, clubs k, diamonds k, hearts k, spades k, four_suits cards (k + 2)),
    λ often. (bits k).1 (omega (arith, clubs k, diamonds k, hearts k, spades k, four_suits cards (k + 2))),
  );
  past = λ h often. (height_least cards h (omega arith)).0;
  small = small;
}

-- a mask of one suit shows the cards of the suit
pub suit_shows : (cards : List Card) (mask s : ℕ) → mask < 2 ^ 16 → ((k : ℕ) → bit_at mask k ≡ times high_ace (filter (of_suit s) cards) (k + 2)) → Shows mask 1 (times high_ace (filter (of_suit s) cards))
suit_shows cards mask s small bits = record {
  each = λ k. (λ set. omega (arith, bits k), λ often. omega (arith, bits k, bit_at-lt mask k));
  past = λ h often. (height_least (filter (of_suit s) cards) h (omega arith)).0;
  small = small;
}

-- the rank with this number of ranks below it
pub rank_below : (k : ℕ) → k < 13 → (rank : Rank) × (ranks_below rank ≡ k)
rank_below zero few = (ranks.Two, refl)
rank_below (suc zero) few = (ranks.Three, refl)
rank_below (suc (suc zero)) few = (ranks.Four, refl)
rank_below (suc (suc (suc zero))) few = (ranks.Five, refl)
rank_below (suc (suc (suc (suc zero)))) few = (ranks.Six, refl)
rank_below (suc (suc (suc (suc (suc zero))))) few = (ranks.Seven, refl)
rank_below (suc (suc (suc (suc (suc (suc zero)))))) few = (ranks.Eight, refl)
rank_below (suc (suc (suc (suc (suc (suc (suc zero))))))) few = (ranks.Nine, refl)
rank_below (suc (suc (suc (suc (suc (suc (suc (suc zero)))))))) few = (ranks.Ten, refl)
rank_below (suc (suc (suc (suc (suc (suc (suc (suc (suc zero))))))))) few = (ranks.Jack, refl)
rank_below (suc (suc (suc (suc (suc (suc (suc (suc (suc (suc zero)))))))))) few = (ranks.Queen, refl)
rank_below (suc (suc (suc (suc (suc (suc (suc (suc (suc (suc (suc zero))))))))))) few = (ranks.King, refl)
rank_below (suc (suc (suc (suc (suc (suc (suc (suc (suc (suc (suc (suc zero)))))))))))) few = (ranks.Ace, refl)
rank_below (suc (suc (suc (suc (suc (suc (suc (suc (suc (suc (suc (suc (suc k))))))))))))) few = absurd (omega arith)

-- the bits of a suit's mask are the counts of the suit's cards
pub mask_counts : (set : CardSet) (mask : ℕ) (suit : Suit) (cards : List Card) → IsListing set cards → mask < 2 ^ 13 → ((rank : Rank) → (bit_at mask (ranks_below rank) == 1) ≡ is_in set (record { rank = rank; suit = suit })) → (k : ℕ) → bit_at mask k ≡ times high_ace (filter (of_suit (suits_before suit)) cards) (k + 2)
mask_counts set mask suit cards lists small is k =
    elim (cases_lt k 13) [
      | inl within ↦
          let found = rank_below k within in
          let card : Card = record { rank = found.0; suit = suit } in
          let here = ap (λ (n : ℕ). bit_at mask n == 1) (sym found.1) ∙ is found.0 ∙ lists.same card in
          by_test (is_one_of card cards) here (bit_at-lt mask k)
          ∙ sym (rank_once card cards lists.different)
          ∙ ap (λ (n : ℕ). times high_ace (filter (of_suit (suits_before suit)) cards) (n + 2)) found.1
      | inr past ↦
          let off = bit_at_above mask 13 k small past in
          elim (cases_lt 0 (times high_ace (filter (of_suit (suits_before suit)) cards) (k + 2))) [
            | inl some ↦ absurd (omega (arith, (height_least (filter (of_suit (suits_before suit)) cards) (k + 2) some).1))
            | inr none ↦ omega arith
          ]
    ]
  where
    by_test : (b : Bool) → (bit_at mask k == 1) ≡ b → bit_at mask k < 2 → bit_at mask k ≡ cond b 1 0
    by_test true test few = eqb-true (bit_at mask k) 1 test
    by_test false test few = let apart = eqb-false (bit_at mask k) 1 test in elim (cases_lt 0 (bit_at mask k)) [ inl some ↦ absurd (apart (omega arith)) | inr none ↦ omega arith ]
