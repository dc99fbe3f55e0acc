-- Another seat can act if more can act than this one.
use Rattle.std.proofs.Common.{Bool, nat_lt, cond, sym, ap, ◌∙◌, arith}
use Rattle.betting_numbers.specs.Seen.{able_count_seen, can_act_seen}
use Rattle.betting_numbers.proofs.OneChanged.{another_passes, any_passes}
use Rattle.betting_numbers.proofs.betting_state.BettingState.has_opponent.Goals as goal

pub returns-then-self-seat : goal.returns-then-self-seat
returns-then-self-seat c =
    let b = c.args.self.now in
    ap (nat_lt 0) c.able_count.ensures ∙ sym (any_passes (can_act_seen b) 1 b.setup.stacks.seats c.args.seat.number (omega (arith, c.if-self-seat.true)))

pub returns-then-can_act : goal.returns-then-can_act
returns-then-can_act c =
    let b = c.args.self.now in
    let seat = c.args.seat.number in
    ap (nat_lt 1) c.able_count-then-can_act.ensures
    ∙ ap (λ (own : Bool). nat_lt (cond own 1 0) (able_count_seen b)) (sym c.if-can_act.true ∙ c.can_act.ensures)
    ∙ sym (another_passes (can_act_seen b) 1 b.setup.stacks.seats seat c.args.seat.first (omega (arith, c.if-self-seat.false)))

pub returns-else-can_act : goal.returns-else-can_act
returns-else-can_act c =
    let b = c.args.self.now in
    let seat = c.args.seat.number in
    ap (nat_lt 0) c.able_count-else-can_act.ensures
    ∙ ap (λ (own : Bool). nat_lt (cond own 1 0) (able_count_seen b)) (sym c.if-can_act.false ∙ c.can_act.ensures)
    ∙ sym (another_passes (can_act_seen b) 1 b.setup.stacks.seats seat c.args.seat.first (omega (arith, c.if-self-seat.false)))
