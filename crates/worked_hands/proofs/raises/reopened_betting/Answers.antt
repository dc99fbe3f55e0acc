-- Each clause is computed.
use Rattle.std.proofs.Common.{refl}
use Rattle.card_set.specs.Spelling.{slot_spelled, rank_lettered, suit_lettered}
use Rattle.play_event.specs.Due.{turn}
use Rattle.play_event.specs.Reasons.{why}
use Rattle.play_event.specs.Scripts.{with_event}
use Rattle.worked_hands.proofs.raises.reopened_betting.Goals as goal

pub returns-clause-a_short_all_in_does_not_reopen : goal.returns-clause-a_short_all_in_does_not_reopen
unfolding turn why with_event slot_spelled rank_lettered suit_lettered
returns-clause-a_short_all_in_does_not_reopen c = refl

pub returns-clause-it_does_where_betting_always_reopens : goal.returns-clause-it_does_where_betting_always_reopens
unfolding turn why with_event slot_spelled rank_lettered suit_lettered
returns-clause-it_does_where_betting_always_reopens c = refl

pub returns-clause-nor_does_it_in_pot_limit : goal.returns-clause-nor_does_it_in_pot_limit
unfolding turn why with_event slot_spelled rank_lettered suit_lettered
returns-clause-nor_does_it_in_pot_limit c = refl

pub returns-clause-half_a_bet_reopens_in_fixed_limit : goal.returns-clause-half_a_bet_reopens_in_fixed_limit
unfolding turn why with_event slot_spelled rank_lettered suit_lettered
returns-clause-half_a_bet_reopens_in_fixed_limit c = refl
