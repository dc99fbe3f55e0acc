-- Each clause is computed.
use Rattle.std.proofs.Common.{refl}
use Rattle.card_set.specs.Spelling.{slot_spelled, rank_lettered, suit_lettered}
use Rattle.play_event.specs.Due.{turn}
use Rattle.play_event.specs.Reasons.{why}
use Rattle.play_event.specs.Scripts.{with_event}
use Rattle.worked_hands.proofs.raises.folds_and_calls.Goals as goal

pub returns-clause-a_free_fold : goal.returns-clause-a_free_fold
unfolding turn why with_event slot_spelled rank_lettered suit_lettered
returns-clause-a_free_fold c = refl

pub returns-clause-a_fold_with_nothing_to_call : goal.returns-clause-a_fold_with_nothing_to_call
unfolding turn why with_event slot_spelled rank_lettered suit_lettered
returns-clause-a_fold_with_nothing_to_call c = refl

pub returns-clause-a_call_that_states_what_it_adds : goal.returns-clause-a_call_that_states_what_it_adds
unfolding turn why with_event slot_spelled rank_lettered suit_lettered
returns-clause-a_call_that_states_what_it_adds c = refl

pub returns-clause-a_call_stating_nothing : goal.returns-clause-a_call_stating_nothing
unfolding turn why with_event slot_spelled rank_lettered suit_lettered
returns-clause-a_call_stating_nothing c = refl

pub returns-clause-a_short_call_states_what_it_adds : goal.returns-clause-a_short_call_states_what_it_adds
unfolding turn why with_event slot_spelled rank_lettered suit_lettered
returns-clause-a_short_call_states_what_it_adds c = refl

pub returns-clause-not_what_is_owed : goal.returns-clause-not_what_is_owed
unfolding turn why with_event slot_spelled rank_lettered suit_lettered
returns-clause-not_what_is_owed c = refl

pub returns-clause-a_bet_by_the_chips_of_the_hand : goal.returns-clause-a_bet_by_the_chips_of_the_hand
unfolding turn why with_event slot_spelled rank_lettered suit_lettered
returns-clause-a_bet_by_the_chips_of_the_hand c = refl
