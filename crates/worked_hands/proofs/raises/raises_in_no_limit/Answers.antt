-- Each clause is computed.
use Rattle.std.proofs.Common.{refl}
use Rattle.card_set.specs.Spelling.{slot_spelled, rank_lettered, suit_lettered}
use Rattle.play_event.specs.Due.{turn}
use Rattle.play_event.specs.Reasons.{why}
use Rattle.play_event.specs.Scripts.{with_event}
use Rattle.worked_hands.proofs.raises.raises_in_no_limit.Goals as goal

pub returns-clause-below_the_least_raise : goal.returns-clause-below_the_least_raise
unfolding turn why with_event slot_spelled rank_lettered suit_lettered
returns-clause-below_the_least_raise c = refl

pub returns-clause-eighteen_is_no_full_raise : goal.returns-clause-eighteen_is_no_full_raise
unfolding turn why with_event slot_spelled rank_lettered suit_lettered
returns-clause-eighteen_is_no_full_raise c = refl

pub returns-clause-twenty_two_is_a_full_raise : goal.returns-clause-twenty_two_is_a_full_raise
unfolding turn why with_event slot_spelled rank_lettered suit_lettered
returns-clause-twenty_two_is_a_full_raise c = refl

pub returns-clause-not_to_seventeen : goal.returns-clause-not_to_seventeen
unfolding turn why with_event slot_spelled rank_lettered suit_lettered
returns-clause-not_to_seventeen c = refl

pub returns-clause-to_eighteen : goal.returns-clause-to_eighteen
unfolding turn why with_event slot_spelled rank_lettered suit_lettered
returns-clause-to_eighteen c = refl

pub returns-clause-a_floor_from_the_start : goal.returns-clause-a_floor_from_the_start
unfolding turn why with_event slot_spelled rank_lettered suit_lettered
returns-clause-a_floor_from_the_start c = refl

pub returns-clause-a_small_bet_on_a_later_street : goal.returns-clause-a_small_bet_on_a_later_street
unfolding turn why with_event slot_spelled rank_lettered suit_lettered
returns-clause-a_small_bet_on_a_later_street c = refl

pub returns-clause-and_where_betting_always_reopens : goal.returns-clause-and_where_betting_always_reopens
unfolding turn why with_event slot_spelled rank_lettered suit_lettered
returns-clause-and_where_betting_always_reopens c = refl
