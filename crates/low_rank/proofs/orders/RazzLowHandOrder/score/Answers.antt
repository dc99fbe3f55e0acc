use Rattle.std.proofs.Common.{refl, arith, ◌∙◌}
use Rattle.card_set.specs.Row.{cards_of}
use Rattle.hand_order.proofs.SetChoices.{count_of-row, listing_of, only_choice}
use Rattle.low_rank.specs.Razz.{points}
use Rattle.low_rank.proofs.orders.RazzLowHandOrder.score.Goals as goal

pub best_razz-requires : goal.best_razz-requires
best_razz-requires c =
    omega (arith, count_of-row c.of.result (cards_of c.args.cards.now) (cards_of c.args.cards.now) refl c.requires.1 c.of.ensures, c.requires.0)

pub returns : goal.returns
returns c =
    let cards = cards_of c.args.cards.now in
    c.best_razz.ensures cards (listing_of c.of.result cards cards refl c.requires.1 c.of.ensures) ∙ only_choice points 5 cards c.requires.0
