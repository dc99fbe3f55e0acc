-- The numbers stand for the moves before it.
use Rattle.std.proofs.Common.{◌∙◌}
use Rattle.play_event.specs.Played.{act_said}
use Rattle.betting_numbers.proofs.TraceLaws.{traced_is}
use Rattle.betting_numbers.proofs.betting_state.BettingState.traced.Goals as goal

pub returns : goal.returns
returns c =
    λ moves st. c.traced.ensures ∙ traced_is c.args.self.now moves st c.args.seat.number (record { first = c.args.seat.first; last = c.requires.in_hand }) c.args.limit c.requires.limit (act_said c.args.act) c.args.target
