-- The cards that are taken and those that are left in the stock are the cards that were in it; at
-- first it has each card of the game once.
use Rattle.std.proofs.Common.{◌≡◌, ℕ, zero, suc, ◌+◌, ◌/◌, ◌^◌, ◌≤◌, ◌<◌, Bool, true, false, ◌==◌, not, cond, if◌then◌else◌, List, [], ◌∷◌, length, map, filter, slice_get, unwrap_or, count_by, refl, sym, ap, arith}
use Rattle.std.specs.List.{range_with_len, remove}
use Rattle.std.proofs.lemmas.Bool.{eqb-true}
use Rattle.std.proofs.lemmas.List.Edits.{length-remove}
use Rattle.std.proofs.lemmas.Nat.{mod_below}
use Rattle.card_set.specs.declared.card.Card.{Card}
use Rattle.card_set.specs.Deck.{card_with_index, deck_index, is_same_card}
use Rattle.card_set.proofs.Counting.{count_agree, count_by-cons, count_by-map, count_one}
use Rattle.card_set.proofs.NumbersOfRange.{all_at}
use Rattle.play_event.specs.declared.code.Code.{Code}
use Rattle.play_event.specs.declared.code.Code.TheVariants as games
use Rattle.play_event.specs.Streets.{deck_of}
use Rattle.play_event.specs.Taken.{is_in_deck}
use Rattle.hand_gen.specs.Draws.{choice_among, next_number}
use Rattle.hand_gen.specs.HandSource.{HandSource, after_card, after_cards, full_deck, next_card, next_cards, next_place}

-- a card that is taken out at a place is no longer counted among the others
taken_out : (p : Card → Bool) (cards : List Card) (place : ℕ) (other : Card) → place < length cards → cond (p (unwrap_or (slice_get cards place) other)) 1 0 + count_by p (remove cards place) ≡ count_by p cards
taken_out p [] place other within = absurd (omega (arith, within))
taken_out p (card ∷ rest) zero other within = sym (count_by-cons p card rest)
taken_out p (card ∷ rest) (suc place) other within =
    omega (arith, taken_out p rest place other (omega (arith, within)), count_by-cons p card rest, count_by-cons p card (remove rest place))

drawn_within : (count number : ℕ) → 0 < count → choice_among count number < count
drawn_within count number some = mod_below (number / 2 ^ 33) count some

-- what is taken and what is left
pub taken_counts : (p : Card → Bool) (count : ℕ) (stock : HandSource) → count ≤ length stock.deck → count_by p (next_cards count stock) + count_by p (after_cards count stock).deck ≡ count_by p stock.deck
taken_counts p zero stock enough = omega arith
taken_counts p (suc count) stock enough =
    let place : next_place stock < length stock.deck = drawn_within (length stock.deck) (next_number stock.number) (omega (arith, enough)) in
    let here = taken_out p stock.deck (next_place stock) (card_with_index 0) place in
    omega (
      arith,
      here,
      count_by-cons p (next_card stock) (next_cards count (after_card stock)),
      taken_counts p count (after_card stock) (omega (arith, enough, length-remove stock.deck (next_place stock) place)),
    )

-- this number of cards is taken
pub taken_length : (count : ℕ) (stock : HandSource) → length (next_cards count stock) ≡ count
taken_length zero stock = refl
taken_length (suc count) stock = ap suc (taken_length count (after_card stock))

-- the places of the deck
placed_again : (place : ℕ) → place < 52 → deck_index (card_with_index place) ≡ place
unfolding card_with_index
placed_again place within =
    eqb-true (deck_index (card_with_index place)) place (all_at (λ k. deck_index (card_with_index k) == k) 0 52 place refl (omega arith) (omega (arith, within)))

kept_fewer : (p q : Card → Bool) (cards : List Card) → count_by p (filter q cards) ≤ count_by p cards
kept_fewer p q [] = omega arith
kept_fewer p q (card ∷ rest) = by_test (q card) (kept_fewer p q rest)
  where
    by_test : (kept : Bool) → count_by p (filter q rest) ≤ count_by p rest → count_by p (if kept then (card ∷ filter q rest) else filter q rest) ≤ count_by p (card ∷ rest)
    by_test true fewer = omega (arith, count_by-cons p card rest, count_by-cons p card (filter q rest), fewer)
    by_test false fewer = omega (arith, count_by-cons p card rest, fewer)

-- each card occurs at most once in the whole deck
pub once_in_deck : (code : Code) (card : Card) → count_by (is_same_card card) (full_deck code) ≤ 1
once_in_deck code card =
    let all : List ℕ = range_with_len 0 52 in
    let places : count_by (λ place. is_same_card card (card_with_index place)) all ≡ count_by (λ place. deck_index card == place) all =
    count_agree (λ place. is_same_card card (card_with_index place)) (λ place. deck_index card == place) 0 52 (λ place low high. ap (λ n. deck_index card == n) (placed_again place (omega (arith, high)))) in
    omega (arith, kept_fewer (is_same_card card) (is_in_deck code) (map card_with_index all), count_by-map (is_same_card card) card_with_index all, places, count_one (deck_index card) 0 52)

-- and all of its cards are in it
kept_pass : (q : Card → Bool) (cards : List Card) → count_by (λ card. not (q card)) (filter q cards) ≡ 0
kept_pass q [] = refl
kept_pass q (card ∷ rest) = by_test (q card) refl (kept_pass q rest)
  where
    by_test : (kept : Bool) → q card ≡ kept → count_by (λ c. not (q c)) (filter q rest) ≡ 0 → count_by (λ c. not (q c)) (if kept then (card ∷ filter q rest) else filter q rest) ≡ 0
    by_test true is none = omega (arith, count_by-cons (λ c. not (q c)) card (filter q rest), ap {B = ℕ} (λ b. cond (not b) 1 0) is, none)
    by_test false is none = none

pub all_in_deck : (code : Code) → count_by (λ card. not (is_in_deck code card)) (full_deck code) ≡ 0
all_in_deck code = kept_pass (is_in_deck code) (map card_with_index (range_with_len 0 52))

-- as many as the game has
pub deck_length : (code : Code) → length (full_deck code) ≡ deck_of code
unfolding card_with_index
deck_length games.FT = refl
deck_length games.NT = refl
deck_length games.NS = refl
deck_length games.PO = refl
deck_length games.FO8 = refl
deck_length games.F7S = refl
deck_length games.F7S8 = refl
deck_length games.FR = refl
deck_length games.N2L1D = refl
deck_length games.F2L3D = refl
deck_length games.FB = refl
