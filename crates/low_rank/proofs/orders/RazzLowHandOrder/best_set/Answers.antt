use Rattle.card_set.specs.CardSet.{count_of}
use Rattle.hand_order.proofs.SetChoices.{enough_to_choose}
use Rattle.low_rank.proofs.orders.RazzLowHandOrder.best_set.Goals as goal

pub best_razz-requires : goal.best_razz-requires
best_razz-requires c = enough_to_choose 5 (count_of c.args.cards.now) c.requires
