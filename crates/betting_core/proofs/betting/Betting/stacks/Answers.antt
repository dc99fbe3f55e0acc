-- The numbers are those of the past.
use Rattle.std.proofs.Common.{◌∙◌}
use Rattle.play_event.specs.Past.{moves_of}
use Rattle.betting_numbers.proofs.Bridge.{left_is}
use Rattle.betting_core.proofs.betting.Betting.stacks.Goals as goal

pub returns : goal.returns
returns g c =
    let b = c.self.inside.numbers in
    let amounts = c.stacks_left.ensures.amounts in
    rw (← c.self.view_is)
    record {
      seats = c.stacks_left.ensures.seats;
      stands = λ past stands seat in_hand. amounts seat in_hand.first in_hand.last ∙ left_is b (moves_of past) stands.standing seat in_hand;
      up_to = λ past stands seat in_hand. amounts seat in_hand.first in_hand.last ∙ left_is b (moves_of past) stands.standing seat in_hand;
    }
