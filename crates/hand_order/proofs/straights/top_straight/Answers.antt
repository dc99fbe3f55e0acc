use Rattle.hand_order.proofs.StraightBits.{tops_found, tops_most}
use Rattle.hand_order.proofs.straights.top_straight.Goals as goal

pub returns-clause-most : goal.returns-clause-most
returns-clause-most c = λ T top shows has.
    tops_most c.args.low T c.top_run.result c.top_low.result c.max.result top (c.top_run.ensures.most T top shows) (c.top_low.ensures.most T top shows) c.max.ensures has

pub returns-clause-found : goal.returns-clause-found
returns-clause-found c = λ T shows.
    tops_found c.args.low T c.top_run.result c.top_low.result c.max.result (c.top_run.ensures.found T shows) (c.top_low.ensures.found T shows) c.max.ensures
