-- A set with one more card, and the cards of a set so far in the order of the deck.
use Rattle.std.proofs.Common.{◌≡◌, ◌≢◌, ℕ, ◌+◌, ◌<◌, ◌≤◌, ◌||◌, Bool, true, false, cond, List, [], ◌∷◌, ◌++◌, length, filter, take, drop, get_or, ◌⊎◌, inl, inr, sym, ◌∙◌, ap, arith, length-append, take-append-drop, length-take, take_all}
use Rattle.std.proofs.lemmas.List.{take_more}
use Rattle.std.proofs.lemmas.List.Elements.{filter_more, filter-append}
use Rattle.card_set.specs.declared.card.Card.{Card}
use Rattle.card_set.specs.declared.row.CardRow.{CardRow}
use Rattle.card_set.specs.CardSet.{every_card, is_one_of}
use Rattle.card_set.specs.Deck.{deck_index, is_same_card}
use Rattle.card_set.specs.Filler.{filler_card}
use Rattle.card_set.specs.Row.{cards_of}
use Rattle.card_set.proofs.DeckLaws.{is_same_card-true, is_same_card-self}
use Rattle.card_set.proofs.Listing.{deck_at, deck_length}
use Rattle.card_set.proofs.Tests.{or_assoc, or_false, or_right, passes_or_not, true_false}

-- a card at the end
pub is_one_of-more : (card other : Card) (cards : List Card) → is_one_of card (cards ++ other ∷ []) ≡ (is_one_of card cards || is_same_card other card)
is_one_of-more card other [] = or_false (is_same_card other card)
is_one_of-more card other (first ∷ cards) =
    ap (λ (b : Bool). is_same_card first card || b) (is_one_of-more card other cards) ∙ or_assoc (is_same_card first card) (is_one_of card cards) (is_same_card other card)

-- a set with one more card has the cards so far and this one
pub inserted : (before after : Card → Bool) (items : List Card) (i : ℕ) (put filler : Card) → i < length items → put ≡ get_or items i filler → ((card : Card) → before card ≡ is_one_of card (take i items)) → after put ≡ true → ((other : Card) → other ≢ put → after other ≡ before other) → (card : Card) → after card ≡ is_one_of card (take (i + 1) items)
inserted before after items i put filler within is so_far inside others card =
    by_test (passes_or_not (is_same_card put card))
    ∙ sym (ap (is_one_of card) (take_more items i filler within ∙ ap (λ (c : Card). take i items ++ c ∷ []) (sym is)) ∙ is_one_of-more card put (take i items))
  where
    by_test : (is_same_card put card ≡ true) ⊎ (is_same_card put card ≡ false) → after card ≡ (is_one_of card (take i items) || is_same_card put card)
    by_test (inl same) = ap after (sym (is_same_card-true put card same)) ∙ inside ∙ sym (or_right (is_one_of card (take i items)) (is_same_card put card) same)
    by_test (inr apart) =
        others card (λ same. true_false (sym (ap (is_same_card put) same ∙ is_same_card-self put) ∙ apart))
        ∙ so_far card
        ∙ sym (ap (λ (b : Bool). is_one_of card (take i items) || b) apart ∙ or_false (is_one_of card (take i items)))

-- the card at the next index of the deck passes
pub deck_more : (p : Card → Bool) (card : Card) (index : ℕ) (b : Bool) → deck_index card ≡ index → index < 52 → p card ≡ b → filter p (take (index + 1) every_card) ≡ filter p (take index every_card) ++ cond b (card ∷ []) []
deck_more p card index b is within passes =
    filter_more p every_card index filler_card (omega (arith, deck_length))
    ∙ ap (λ (c : Card). filter p (take index every_card) ++ cond (p c) (c ∷ []) []) (deck_at card index is within)
    ∙ ap (λ (t : Bool). filter p (take index every_card) ++ cond t (card ∷ []) []) passes

-- the first cards that pass are at most as many as all
pub deck_first-le : (p : Card → Bool) (k : ℕ) → length (filter p (take k every_card)) ≤ length (filter p every_card)
deck_first-le p k =
    let split = ap (length {A = Card}) (ap (filter p) (sym (take-append-drop k every_card)) ∙ filter-append p (take k every_card) (drop k every_card)) in
    omega (arith, split, length-append (filter p (take k every_card)) (filter p (drop k every_card)))

-- a row has as many cards as it says
pub row_length : (row : CardRow) → length (cards_of row) ≡ row.len
row_length row = omega (arith, length-take row.len row.cards, row.entries, row.fits)

-- and after the last index they are all
pub deck_all : (p : Card → Bool) (k : ℕ) → 52 ≤ k → filter p (take k every_card) ≡ filter p every_card
deck_all p k past = ap (filter p) (take_all k every_card (omega (arith, deck_length)))
