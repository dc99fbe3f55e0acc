-- Each clause is computed.
use Rattle.std.proofs.Common.{refl}
use Rattle.card_set.specs.Spelling.{slot_spelled, rank_lettered, suit_lettered}
use Rattle.play_event.specs.Due.{turn}
use Rattle.play_event.specs.Reasons.{why}
use Rattle.play_event.specs.Scripts.{with_event}
use Rattle.worked_hands.proofs.traced_events.traced_bets.Goals as goal

pub returns-clause-a_closed_raise : goal.returns-clause-a_closed_raise
unfolding turn why with_event slot_spelled rank_lettered suit_lettered
returns-clause-a_closed_raise c = refl

pub returns-clause-a_target_that_is_closed : goal.returns-clause-a_target_that_is_closed
unfolding turn why with_event slot_spelled rank_lettered suit_lettered
returns-clause-a_target_that_is_closed c = refl

pub returns-clause-units_in_fixed_limit : goal.returns-clause-units_in_fixed_limit
unfolding turn why with_event slot_spelled rank_lettered suit_lettered
returns-clause-units_in_fixed_limit c = refl

pub returns-clause-none_in_pot_limit : goal.returns-clause-none_in_pot_limit
unfolding turn why with_event slot_spelled rank_lettered suit_lettered
returns-clause-none_in_pot_limit c = refl
