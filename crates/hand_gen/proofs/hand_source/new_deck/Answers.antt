-- One more place of the deck, and in the end all places.
use Rattle.std.proofs.Common.{◌≡◌, ◌++◌, ◌∷◌, [], List, cond, map, filter, sym, ap, ◌∙◌, arith}
use Rattle.std.specs.List.{range_with_len}
use Rattle.card_set.specs.Deck.{card_with_index}
use Rattle.card_set.specs.declared.card.Card.{Card}
use Rattle.play_event.specs.declared.code.Code.{Code}
use Rattle.play_event.specs.Taken.{is_in_deck}
use Rattle.hand_gen.proofs.StockLaws.{one_place_more}
use Rattle.hand_gen.proofs.hand_source.new_deck.Goals as goal

pub loop-place-preserved : goal.loop-place-preserved
loop-place-preserved c =
    let card : Card = c.card_from_index-card.result in
    let has = c.in_deck.result in
    let in_deck : is_in_deck c.args.code card ≡ has = sym (ap (λ (code : Code). is_in_deck code card) c.of-table.ensures) ∙ sym c.in_deck.ensures in
    c.in_ok-push_if.ensures
    ∙ ap (λ (l : List Card). l ++ cond has (card ∷ []) []) c.loop-place.invariant
    ∙ sym (one_place_more c.args.code c.loop-place.place card has c.card_from_index-card.ensures.card in_deck)

pub returns : goal.returns
returns c =
    let last : c.loop-place.place ≡ 52 = omega (arith, c.loop-place-test.false) in
    c.loop-place.invariant ∙ ap (λ n. filter (is_in_deck c.args.code) (map card_with_index (range_with_len 0 n))) last
