use Rattle.card_set.specs.CardSet.{count_of}
use Rattle.hand_order.proofs.SetChoices.{enough_to_choose}
use Rattle.high_rank.proofs.Ladders.{high_best}
use Rattle.high_rank.proofs.whole_deck.HighHandOrder.best_set.Goals as goal

pub best_high-requires : goal.best_high-requires
best_high-requires c = enough_to_choose 5 (count_of c.args.cards.now) c.requires

pub returns : goal.returns
returns c = λ listing lists. high_best c.best_high.result listing (c.best_high.ensures listing lists)
