use Rattle.std.proofs.Common.{arith}
use Rattle.card_set.specs.CardSet.{count_of}
use Rattle.low_rank.proofs.LowAlike.{deuce_alike}
use Rattle.hand_order.proofs.SetChoices.{few_to_choose}
use Rattle.low_rank.proofs.deuce.DeuceSevenHandOrder.best_set.Goals as goal

pub best_listed-requires-clause-few : goal.best_listed-requires-clause-few
best_listed-requires-clause-few c = few_to_choose 5 (count_of c.args.cards.now) (omega arith) c.requires

pub best_listed-requires-clause-alike : goal.best_listed-requires-clause-alike
best_listed-requires-clause-alike c = deuce_alike
