use Rattle.card_set.proofs.BitLaws.{ones_count}
use Rattle.card_set.proofs.set.CardSet.len.Goals as goal

pub returns : goal.returns
returns c = ones_count c.args.self.now
