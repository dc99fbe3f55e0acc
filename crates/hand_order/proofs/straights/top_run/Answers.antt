use Rattle.std.proofs.Common.{◌-◌, arith, inr}
use Rattle.hand_order.proofs.StraightBits.{run_most, run_found}
use Rattle.hand_order.proofs.straights.top_run.Goals as goal
use Rattle.card_set.proofs.Bits.{no_bit}

pub returns-then-runs-eq0-clause-most : goal.returns-then-runs-eq0-clause-most
returns-then-runs-eq0-clause-most c = λ T top shows run.
    no_bit c.runs_of-runs.result (top - 6) c.if-runs-eq0.true (run_most c.args.mask c.runs_of-runs.result T top shows c.runs_of-runs.ensures.bits run)

pub returns-clause-most : goal.returns-clause-most
returns-clause-most c = λ T top shows run.
    let under = c.top.ensures.highest (top - 6) (run_most c.args.mask c.runs_of-runs.result T top shows c.runs_of-runs.ensures.bits run) in
    omega (arith, run.0)

pub returns-clause-found : goal.returns-clause-found
returns-clause-found c = λ T shows. inr (run_found c.args.mask c.runs_of-runs.result T c.top.result shows c.runs_of-runs.ensures.bits c.top.ensures.set)
