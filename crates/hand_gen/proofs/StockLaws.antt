-- One more card.
use Rattle.std.proofs.Common.{◌≡◌, ℕ, suc, ◌+◌, ◌-◌, ◌<◌, Bool, List, [], ◌∷◌, ◌++◌, map, filter, cond, sym, ap, ◌∙◌, arith}
use Rattle.std.proofs.lemmas.List.{append_assoc, map-append}
use Rattle.std.proofs.lemmas.List.Elements.{filter-append}
use Rattle.std.specs.List.{range_with_len}
use Rattle.card_set.specs.Deck.{card_with_index}
use Rattle.card_set.proofs.Ranges.{range_more}
use Rattle.play_event.specs.declared.code.Code.{Code}
use Rattle.play_event.specs.Taken.{is_in_deck}
use Rattle.card_set.specs.declared.card.Card.{Card}
use Rattle.hand_gen.specs.HandSource.{HandSource, after_card, after_cards, next_card, next_cards}

one_less : (count done : ℕ) → done < count → count - done ≡ suc (count - (done + 1))
one_less count done more = omega (arith, more)

-- the next card comes after those so far
pub one_card_more : (count done : ℕ) (stock : HandSource) (cards whole : List Card) → done < count → cards ++ next_cards (count - done) stock ≡ whole → (cards ++ next_card stock ∷ []) ++ next_cards (count - (done + 1)) (after_card stock) ≡ whole
one_card_more count done stock cards whole more is =
    append_assoc cards (next_card stock ∷ []) (next_cards (count - (done + 1)) (after_card stock))
    ∙ sym (ap (λ n. cards ++ next_cards n stock) (one_less count done more))
    ∙ is

-- what is left after the next card
pub one_card_less : (count done : ℕ) (stock whole : HandSource) → done < count → after_cards (count - done) stock ≡ whole → after_cards (count - (done + 1)) (after_card stock) ≡ whole
one_card_less count done stock whole more is = sym (ap (λ n. after_cards n stock) (one_less count done more)) ∙ is

-- one more place of the deck, whose card the game has or does not have
pub one_place_more : (code : Code) (place : ℕ) (card : Card) (has : Bool) → card ≡ card_with_index place → is_in_deck code card ≡ has → filter (is_in_deck code) (map card_with_index (range_with_len 0 (place + 1))) ≡ filter (is_in_deck code) (map card_with_index (range_with_len 0 place)) ++ cond has (card ∷ []) []
one_place_more code place card has is in_deck =
    let more : place + 1 ≡ suc place = omega arith in
    let last : 0 + place ≡ place = omega arith in
    ap (λ n. filter (is_in_deck code) (map card_with_index (range_with_len 0 n))) more
    ∙ ap (λ (l : List ℕ). filter (is_in_deck code) (map card_with_index l)) (range_more 0 place ∙ ap (λ (n : ℕ). range_with_len 0 place ++ n ∷ []) last)
    ∙ ap (filter (is_in_deck code)) (map-append card_with_index (range_with_len 0 place) (place ∷ []) ∙ ap (λ (c : Card). map card_with_index (range_with_len 0 place) ++ c ∷ []) (sym is))
    ∙ filter-append (is_in_deck code) (map card_with_index (range_with_len 0 place)) (card ∷ [])
    ∙ ap (λ b. filter (is_in_deck code) (map card_with_index (range_with_len 0 place)) ++ cond b (card ∷ []) []) in_deck
