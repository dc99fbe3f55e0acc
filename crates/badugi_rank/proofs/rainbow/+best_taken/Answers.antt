use Rattle.std.proofs.Common.{refl}
use Rattle.badugi_rank.proofs.Taking.{most_either}
use Rattle.badugi_rank.proofs.rainbow.+best_taken.Goals as goal

pub returns : goal.returns
returns t c =
    most_either c.args.left c.clear.result c.top-place.result c.args.taken _ c.best_taken-2.result c.best_taken-3.result c.max.result c.args.others.now c.top-place.ensures.set c.clear.ensures.bits refl c.best_taken-2.ensures c.best_taken-3.ensures c.max.ensures
