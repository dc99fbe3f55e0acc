-- A seat that owes is one of all seats.
use Rattle.std.proofs.Common.{◌+◌, ◌&&◌, nat_lt, sym, ◌∙◌, arith}
use Rattle.std.proofs.lemmas.Bool.{and_from, lt-ltb}
use Rattle.betting_numbers.specs.Seen.{can_act_seen, to_call_seen}
use Rattle.betting_numbers.proofs.Leading.{some_at}
use Rattle.betting_numbers.proofs.betting_state.BettingState.able_owes.Goals as goal

pub returns-then-to_call-gt0 : goal.returns-then-to_call-gt0
returns-then-to_call-gt0 c =
    let b = c.args.self.now in
    let k = c.loop-index.index + 1 in
    sym (some_at (λ seat. can_act_seen b seat && nat_lt 0 (to_call_seen b seat)) 1 b.setup.stacks.seats k (omega arith) (omega (arith, c.loop-index-test.true))
    (and_from (can_act_seen b k) (nat_lt 0 (to_call_seen b k)) (sym c.can_act.ensures ∙ c.if-can_act.true) (lt-ltb 0 (to_call_seen b k) (omega (arith, c.to_call.ensures, c.if-to_call-gt0.true)))))
