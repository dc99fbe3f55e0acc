-- Something else is due, or the player to act moves, or it is not known who that is.
use Rattle.std.proofs.Common.{rules, ℕ, true, false, sym, subst, ◌∙◌}
use Rattle.std.proofs.lemmas.Result.{err_from_is_err_and}
use Rattle.chip_ledger.specs.SeatsSaid.{seat_said}
use Rattle.play_event.specs.Said as said
use Rattle.play_event.specs.Past.{Folded}
use Rattle.betting_numbers.specs.LegalMoves.{IsLegalMove}
use Rattle.betting_numbers.proofs.Answered.{no_player_to_act_answer, refused_answer, moves}
use Rattle.betting_numbers.proofs.InTurn.{fold_moves, fold_is_legal, fold_unknown, fold_now, move_fits, bets_now}
use Rattle.betting_numbers.proofs.legal_moves.Turn.fold.Goals as goal

pub returns-in_err-seat : goal.returns-in_err-seat
returns-in_err-seat c =
    let b = c.args.self.now.numbers.now in
    let p = err_from_is_err_and c.from_residual.result c.from_residual.ensures.1 in
    rw (p.1, p.2)
    (no_player_to_act_answer b c.args.self.now.seat (seat_said c.args.actor) (said.Fold (seat_said c.args.actor)) true false c.in_err-seat.field-0.0 c.in_err-seat.ensures
    (λ past stands. fold_now b past stands (seat_said c.args.actor))
    (λ past stands. fold_unknown b past stands c.args.actor))

pub returns-in-Some : goal.returns-in-Some
returns-in-Some c =
    let b = c.args.self.now.numbers.now in
    let m = moves b c.args.self.now.seat (seat_said c.args.actor) true false c.in_ok-seat.seat c.args.self.now.in_hand c.in_ok-seat.ensures in
    refused_answer b c.args.self.now.seat (said.Fold (seat_said c.args.actor)) c.in-Some.reason
    (λ past stands bets. fold_moves b past stands (seat_said c.args.actor) c.in_ok-seat.seat.number m.now m.in_hand (m.turn past stands bets) ∙ sym c.in-Some.ensures)

pub returns : goal.returns
returns c =
    let b = c.args.self.now.numbers.now in
    let m = moves b c.args.self.now.seat (seat_said c.args.actor) true false c.in_ok-seat.seat c.args.self.now.in_hand c.in_ok-seat.ensures in
    record {
      refused = λ past stands bets. tt;
      legal = λ past stands bets. subst (λ (t : ℕ). IsLegalMove b past (said.Fold (seat_said c.args.actor)) c.in_ok-seat.seat.number Folded t) (sym c.get.ensures) (fold_is_legal b past stands (seat_said c.args.actor) c.in_ok-seat.seat.number m.now m.in_hand (m.turn past stands bets) c.in_default.ensures);
      due = bets_now true false b.due m.now;
      fits = move_fits b.due m.now;
      in_hand = m.in_hand.last;
      seat = m.is;
      reach = search rules;
    }
