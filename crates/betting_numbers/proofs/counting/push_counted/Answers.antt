use Rattle.std.proofs.Common.{ℕ, List, ◌<◌, get_or, length, arith, subst, sym, ap}
use Rattle.betting_numbers.proofs.Counts.{counted_all, falling_below}
use Rattle.betting_numbers.proofs.counting.push_counted.Goals as goal

pub bounds-counts-height : goal.bounds-counts-height
bounds-counts-height c = subst (λ (hs : List ℕ). get_or hs c.loop-height.height-index 0 < 15) (sym c.all_heights-heights.ensures) (falling_below c.loop-height.height-index)

pub overflow_sub-result : goal.overflow_sub-result
overflow_sub-result c = let grown = c.loop-height.invariant.2 in omega arith

pub returns-clause-count : goal.returns-clause-count
returns-clause-count c =
    let all = ap (length {A = ℕ}) (counted_all c.args.counts.now c.args.occurrences c.loop-height.height-index (omega arith)) in
    let grown = c.loop-height.invariant.2 in
    omega arith
