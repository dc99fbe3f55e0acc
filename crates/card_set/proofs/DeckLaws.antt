-- Each index of the deck is that of one card.
use Rattle.std.proofs.Common.{◌≡◌, ◌<◌, true, Some, refl, sym, ◌∙◌, ap, arith, slice_get}
use Rattle.std.proofs.lemmas.Bool.{eqb-true, eq-eqb}
use Rattle.card_set.specs.declared.card.Card.{Card}
use Rattle.card_set.specs.declared.card.Rank.{Rank}
use Rattle.card_set.specs.declared.card.Rank.TheVariants as ranks
use Rattle.card_set.specs.declared.card.Suit.{Suit}
use Rattle.card_set.specs.declared.card.Suit.TheVariants as suits
use Rattle.card_set.specs.Deck.{ranks_below, suits_before, deck_index, is_same_card, all_ranks, all_suits}

-- the rank with this number of ranks below it
rank_at : (rank : Rank) → slice_get all_ranks (ranks_below rank) ≡ Some rank
rank_at ranks.Two = refl
rank_at ranks.Three = refl
rank_at ranks.Four = refl
rank_at ranks.Five = refl
rank_at ranks.Six = refl
rank_at ranks.Seven = refl
rank_at ranks.Eight = refl
rank_at ranks.Nine = refl
rank_at ranks.Ten = refl
rank_at ranks.Jack = refl
rank_at ranks.Queen = refl
rank_at ranks.King = refl
rank_at ranks.Ace = refl

-- the suit with this number of suits before it
suit_at : (suit : Suit) → slice_get all_suits (suits_before suit) ≡ Some suit
suit_at suits.C = refl
suit_at suits.D = refl
suit_at suits.H = refl
suit_at suits.S = refl

pub suits_before-few : (suit : Suit) → suits_before suit < 4
suits_before-few suits.C = omega arith
suits_before-few suits.D = omega arith
suits_before-few suits.H = omega arith
suits_before-few suits.S = omega arith

-- ranks with the same number below them are the same
pub ranks_same : (a b : Rank) → ranks_below a ≡ ranks_below b → a ≡ b
ranks_same a b same =
    let read : Some a ≡ Some b = sym (rank_at a) ∙ ap (slice_get all_ranks) same ∙ rank_at b in
    cc

-- suits with the same number before them are the same
pub suits_same : (a b : Suit) → suits_before a ≡ suits_before b → a ≡ b
suits_same a b same =
    let read : Some a ≡ Some b = sym (suit_at a) ∙ ap (slice_get all_suits) same ∙ suit_at b in
    cc

-- cards with the same index in the deck are the same
pub deck_index-same : (a b : Card) → deck_index a ≡ deck_index b → a ≡ b
deck_index-same a b same =
    let few_a = suits_before-few a.suit in
    let few_b = suits_before-few b.suit in
    let rank : a.rank ≡ b.rank = ranks_same a.rank b.rank (omega (arith, same, few_a, few_b)) in
    let suit : a.suit ≡ b.suit = suits_same a.suit b.suit (omega (arith, same, few_a, few_b)) in
    ap (λ r. record { rank = r; suit = a.suit }) rank ∙ ap (λ s. record { rank = b.rank; suit = s }) suit

-- the test for one card is true only for this card
pub is_same_card-true : (a b : Card) → is_same_card a b ≡ true → a ≡ b
is_same_card-true a b same = deck_index-same a b (eqb-true (deck_index a) (deck_index b) same)

-- a card is the same as itself
pub is_same_card-self : (a : Card) → is_same_card a a ≡ true
is_same_card-self a = eq-eqb (deck_index a) (deck_index a) refl
