-- One more card.
use Rattle.std.proofs.Common.{◌+◌, ◌-◌, ◌++◌, ◌∷◌, [], List, ℕ, ap, ◌∙◌}
use Rattle.card_set.specs.declared.card.Card.{Card}
use Rattle.card_set.specs.Row.{cards_of}
use Rattle.hand_gen.specs.HandSource.{after_cards, next_card, next_cards}
use Rattle.hand_gen.proofs.StockLaws.{one_card_less, one_card_more}
use Rattle.hand_gen.proofs.hand_source.HandSource.take_cards.Goals as goal

pub loop-preserved : goal.loop-preserved
loop-preserved c =
    let inv = c.loop.invariant in
    let count : ℕ = c.args.count in
    let done : ℕ = c.loop.counter in
    let left : ℕ = count - (done + 1) in
    let so_far : List Card = cards_of c.loop.cards in (
      c.push.ensures.longer ∙ ap (λ n. n + 1) inv.0,
      ap (λ (l : List Card). l ++ next_cards left c.take_card.new.self) (c.push.ensures.entries ∙ ap (λ (x : Card). so_far ++ x ∷ []) c.take_card.ensures.card)
          ∙ ap (λ s. (so_far ++ next_card c.loop.self ∷ []) ++ next_cards left s) c.take_card.ensures.stock
          ∙ one_card_more count done c.loop.self so_far (next_cards count c.args.self.now) c.loop-test.true inv.1,
      ap (after_cards left) c.take_card.ensures.stock ∙ one_card_less count done c.loop.self (after_cards count c.args.self.now) c.loop-test.true inv.2,
    )
