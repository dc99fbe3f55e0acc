use Rattle.std.proofs.Common.{Some, List, refl, arith, sym, ◌∙◌}
use Rattle.std.proofs.lemmas.Option.{same_Some}
use Rattle.card_set.specs.declared.card.Card.{Card}
use Rattle.card_set.specs.Row.{cards_of}
use Rattle.hand_order.specs.Ladder.{ladder_points}
use Rattle.hand_order.proofs.SetChoices.{count_of-row, listing_of, only_choice}
use Rattle.hand_order.proofs.high.hand_points.Goals as goal

pub best_high-requires : goal.best_high-requires
best_high-requires c =
    omega (arith, count_of-row c.of.result (cards_of c.args.cards.now) (cards_of c.args.cards.now) refl c.requires.1 c.of.ensures, c.requires.0)

pub returns : goal.returns
returns c =
    let cards = cards_of c.args.cards.now in
    let best = c.best_high.ensures cards (listing_of c.of.result cards cards refl c.requires.1 c.of.ensures) in
    same_Some c.best_high.result (ladder_points c.args.flush c.args.low cards)
    (sym best ∙ only_choice (λ (choice : List Card). Some (ladder_points c.args.flush c.args.low choice)) 5 cards c.requires.0)
