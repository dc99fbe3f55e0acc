-- Each clause is computed.
use Rattle.std.proofs.Common.{refl}
use Rattle.card_set.specs.Spelling.{slot_spelled, rank_lettered, suit_lettered}
use Rattle.play_event.specs.Due.{turn}
use Rattle.play_event.specs.Reasons.{why}
use Rattle.play_event.specs.Scripts.{with_event}
use Rattle.worked_hands.proofs.ends.showdowns.Goals as goal

pub returns-clause-a_hand_checked_down : goal.returns-clause-a_hand_checked_down
unfolding turn why with_event slot_spelled rank_lettered suit_lettered
returns-clause-a_hand_checked_down c = refl

pub returns-clause-its_chips : goal.returns-clause-its_chips
unfolding turn why with_event slot_spelled rank_lettered suit_lettered
returns-clause-its_chips c = refl

pub returns-clause-its_showdown : goal.returns-clause-its_showdown
unfolding turn why with_event slot_spelled rank_lettered suit_lettered
returns-clause-its_showdown c = refl

pub returns-clause-it_may_end_there : goal.returns-clause-it_may_end_there
unfolding turn why with_event slot_spelled rank_lettered suit_lettered
returns-clause-it_may_end_there c = refl

pub returns-clause-a_card_of_the_board : goal.returns-clause-a_card_of_the_board
unfolding turn why with_event slot_spelled rank_lettered suit_lettered
returns-clause-a_card_of_the_board c = refl

pub returns-clause-which_comes_before_a_card_left_out : goal.returns-clause-which_comes_before_a_card_left_out
unfolding turn why with_event slot_spelled rank_lettered suit_lettered
returns-clause-which_comes_before_a_card_left_out c = refl

pub returns-clause-another_hand : goal.returns-clause-another_hand
unfolding turn why with_event slot_spelled rank_lettered suit_lettered
returns-clause-another_hand c = refl

pub returns-clause-a_muck_after_a_show : goal.returns-clause-a_muck_after_a_show
unfolding turn why with_event slot_spelled rank_lettered suit_lettered
returns-clause-a_muck_after_a_show c = refl
