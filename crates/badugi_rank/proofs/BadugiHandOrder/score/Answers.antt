use Rattle.std.proofs.Common.{refl, arith}
use Rattle.card_set.specs.Row.{cards_of}
use Rattle.hand_order.proofs.SetChoices.{count_of-row, listing_of}
use Rattle.badugi_rank.proofs.BadugiHandOrder.score.Goals as goal

pub best_rainbow-requires : goal.best_rainbow-requires
best_rainbow-requires c =
    omega (arith, count_of-row c.of.result (cards_of c.args.cards.now) (cards_of c.args.cards.now) refl c.requires.1 c.of.ensures, c.requires.0)

pub returns : goal.returns
returns c =
    let cards = cards_of c.args.cards.now in
    c.best_rainbow.ensures cards (listing_of c.of.result cards cards refl c.requires.1 c.of.ensures)
