-- Something else is due, or the player to act moves, or it is not known who that is.
use Rattle.std.proofs.Common.{rules, arith, ap, ◌-◌, ℕ, true, sym, subst, ◌∙◌}
use Rattle.std.proofs.lemmas.Result.{err_from_is_err_and}
use Rattle.chip_ledger.specs.SeatsSaid.{seat_said}
use Rattle.play_event.specs.Said as said
use Rattle.play_event.specs.Past.{Raised}
use Rattle.betting_numbers.specs.LegalMoves.{IsLegalMove}
use Rattle.betting_numbers.specs.Why.{raise_reason, floor_by}
use Rattle.betting_numbers.proofs.Answered.{no_player_to_act_answer, refused_answer, moves}
use Rattle.betting_numbers.proofs.InTurn.{raise_moves, raise_is_legal, raise_unknown, raise_now, raise_reach, bets_now}
use Rattle.betting_numbers.proofs.legal_moves.Turn.raise.Goals as goal

pub returns-in_err-seat : goal.returns-in_err-seat
returns-in_err-seat c =
    let b = c.args.self.now.numbers.now in
    let p = err_from_is_err_and c.from_residual.result c.from_residual.ensures.1 in
    rw (p.1, p.2)
    (no_player_to_act_answer b c.args.self.now.seat (seat_said c.args.actor) (said.Raise (seat_said c.args.actor) c.args.amount) true true c.in_err-seat.field-0.0 c.in_err-seat.ensures
    (λ past stands. raise_now b past stands (seat_said c.args.actor) c.args.amount)
    (λ past stands. raise_unknown b past stands c.args.actor c.args.amount))

pub returns-in-Some : goal.returns-in-Some
returns-in-Some c =
    let b = c.args.self.now.numbers.now in
    let m = moves b c.args.self.now.seat (seat_said c.args.actor) true true c.in_ok-seat.seat c.args.self.now.in_hand c.in_ok-seat.ensures in
    refused_answer b c.args.self.now.seat (said.Raise (seat_said c.args.actor) c.args.amount) c.in-Some.reason
    (λ past stands bets. raise_moves b past stands (seat_said c.args.actor) c.args.amount c.in_ok-seat.seat.number c.args.limit c.requires.limit m.now m.in_hand (m.turn past stands bets) ∙ sym (c.in-Some.ensures ∙ (ap (λ (f : ℕ). raise_reason c.args.limit b f (seat_said c.args.actor) c.args.amount c.in_ok-seat.seat.number) (c.floor-floor.ensures ∙ ap (λ (s : ℕ). floor_by b.rules.reopen s b) c.start_bet.ensures.value))))

pub returns : goal.returns
returns c =
    let b = c.args.self.now.numbers.now in
    let m = moves b c.args.self.now.seat (seat_said c.args.actor) true true c.in_ok-seat.seat c.args.self.now.in_hand c.in_ok-seat.ensures in
    record {
      refused = λ past stands bets. tt;
      legal = λ past stands bets. subst (λ (t : ℕ). IsLegalMove b past (said.Raise (seat_said c.args.actor) c.args.amount) c.in_ok-seat.seat.number Raised t) (sym c.target.ensures) (raise_is_legal b past stands (seat_said c.args.actor) c.args.amount c.in_ok-seat.seat.number c.args.limit c.requires.limit m.now m.in_hand (m.turn past stands bets) (c.in_default.ensures ∙ (ap (λ (f : ℕ). raise_reason c.args.limit b f (seat_said c.args.actor) c.args.amount c.in_ok-seat.seat.number) (c.floor-floor.ensures ∙ ap (λ (s : ℕ). floor_by b.rules.reopen s b) c.start_bet.ensures.value))));
      due = bets_now true true b.due m.now;
      fits = search rules;
      in_hand = m.in_hand.last;
      seat = m.is;
      reach = omega (arith, c.target.ensures, raise_reach c.args.limit b c.floor-floor.result (seat_said c.args.actor) c.args.amount c.in_ok-seat.seat.number c.in_default.ensures);
    }

pub overflow_cast-result : goal.overflow_cast-result
overflow_cast-result c =
    let b = c.args.self.now.numbers.now in
    let m = c.in_ok-seat.seat in
    let reach = raise_reach c.args.limit b c.floor-floor.result (seat_said c.args.actor) c.args.amount m.number c.in_default.ensures in
    omega (arith, c.target.ensures, reach, b.inside m.number m.first, b.within m.number m.first, b.setup.stacks.bounded (m.number - 1))
