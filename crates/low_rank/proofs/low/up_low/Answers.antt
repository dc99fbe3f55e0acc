use Rattle.card_set.specs.Row.{cards_of}
use Rattle.low_rank.proofs.LowNumber.{up_ordered_at}
use Rattle.low_rank.proofs.low.up_low.Goals as goal

pub returns-clause-ordered : goal.returns-clause-ordered
returns-clause-ordered c = λ other up same. up_ordered_at (cards_of c.args.cards.now) other c.low_score.result.points c.requires up same c.low_score.ensures
