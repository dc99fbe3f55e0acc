use Rattle.std.proofs.Common.{◌+◌, List, [], ◌∷◌, ◌++◌, length, take, filter, true, false, arith, sym, ap, ◌∙◌, append-nil, length-append}
use Rattle.card_set.specs.declared.card.Card.{Card}
use Rattle.card_set.specs.CardSet.{every_card, is_in}
use Rattle.card_set.specs.Row.{cards_of}
use Rattle.card_set.proofs.SetLaws.{deck_all, deck_more, deck_first-le, row_length}
use Rattle.card_set.proofs.set.CardSet.to_row.Goals as goal
use Rattle.card_set.proofs.set.CardSet.to_row.Goals.{then-has, else-has}

pub push-requires : goal.push-requires
push-requires c =
    let set = c.args.self.now in
    let index = c.loop-index.index in
    let more = ap (length {A = Card}) (deck_more (is_in set) c.card_at-card.result index true c.card_at-card.ensures c.loop-index-test.true (sym c.has.ensures ∙ c.if-has.true)) in
    let so_far = ap (length {A = Card}) c.loop-index.invariant in
    omega (arith, more, so_far, c.requires, deck_first-le (is_in set) (index + 1), length-append (filter (is_in set) (take index every_card)) (c.card_at-card.result ∷ []), row_length c.loop-index.row)

pub loop-index-preserved : goal.loop-index-preserved
loop-index-preserved c =
    let set = c.args.self.now in
    let index = c.loop-index.index in
    let card = c.card_at-card.result in
    elim c.if-has.branch [
      | then-has w ↦
          ap cards_of w.row-is ∙ w.push.ensures.entries ∙ ap (λ (l : List Card). l ++ card ∷ []) c.loop-index.invariant
          ∙ sym (deck_more (is_in set) card index true c.card_at-card.ensures c.loop-index-test.true (sym c.has.ensures ∙ w.if-has.true))
      | else-has w ↦
          ap cards_of w.row-is ∙ c.loop-index.invariant ∙ sym (append-nil (filter (is_in set) (take index every_card)))
          ∙ sym (deck_more (is_in set) card index false c.card_at-card.ensures c.loop-index-test.true (sym c.has.ensures ∙ w.if-has.false))
    ]

pub returns : goal.returns
returns c = c.loop-index.invariant ∙ deck_all (is_in c.args.self.now) c.loop-index.index (omega arith)
