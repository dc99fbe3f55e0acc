use Rattle.std.proofs.Common.{refl, arith}
use Rattle.badugi_rank.proofs.TakenRanks.{seen_number, seen_points, seen_ranks}
use Rattle.badugi_rank.proofs.rainbow.taken_points.Goals as goal

pub make_points-requires-clause-below : goal.make_points-requires-clause-below
make_points-requires-clause-below c = seen_number c.args.taken _ (seen_ranks c.args.taken _ _ c.as_slice-2.ensures c.lowest_ranks-ranks.ensures.list)

pub overflow_sub-result : goal.overflow_sub-result
overflow_sub-result c =
    let below = seen_number c.args.taken _ (seen_ranks c.args.taken _ _ c.as_slice-2.ensures c.lowest_ranks-ranks.ensures.list) in
    omega (arith, c.make_points.ensures, below)

pub returns : goal.returns
returns c =
    seen_points c.args.taken _ c.make_points.result c.as_slice.result.now c.as_slice-2.result.now (seen_ranks c.args.taken _ _ c.as_slice.ensures c.lowest_ranks-ranks.ensures.list) (seen_ranks c.args.taken _ _ c.as_slice-2.ensures c.lowest_ranks-ranks.ensures.list) refl c.make_points.ensures
