use Rattle.std.proofs.Common.{◌∙◌, Some}
use Rattle.play_event.specs.Openers.{TheSeat, blinds_opener}
use Rattle.chip_ledger.specs.SeatsSaid.{seat_said}
use Rattle.betting_numbers.proofs.InTurn.{turn_found, seat_found}
use Rattle.betting_numbers.proofs.Passing.{player_to_act_before, player_to_act_behind, opener_in}
use Rattle.betting_numbers.proofs.betting_state.BettingState.player_to_act.Goals as goal

pub returns-in-Some-clause-turn : goal.returns-in-Some-clause-turn
returns-in-Some-clause-turn c =
    player_to_act_before c.args.self.now (TheSeat (blinds_opener c.args.self.now.setup c.args.self.now.street)) c.passed_to-start.result.number c.in-Some.seat.number c.passed_to-start.ensures.value c.in-Some.ensures.found

pub returns-in-None-clause-turn : goal.returns-in-None-clause-turn
returns-in-None-clause-turn c =
    player_to_act_behind c.args.self.now (TheSeat (blinds_opener c.args.self.now.setup c.args.self.now.street)) c.passed_to-start.result.number _ c.passed_to-start.ensures.value c.in-None.ensures.found c.first_to_move-in-None.ensures.found

pub returns-in-Some-clause-due : goal.returns-in-Some-clause-due
returns-in-Some-clause-due c =
    turn_found c.args.self.now (blinds_opener c.args.self.now.setup c.args.self.now.street) (opener_in c.args.self.now) (Some c.in-Some.seat.number) (returns-in-Some-clause-turn c)

pub returns-in-None-clause-due : goal.returns-in-None-clause-due
returns-in-None-clause-due c =
    let found = c.first_to_move-in-None.result in
    seat_found found ∙ turn_found c.args.self.now (blinds_opener c.args.self.now.setup c.args.self.now.street) (opener_in c.args.self.now) (seat_said found) (returns-in-None-clause-turn c)
