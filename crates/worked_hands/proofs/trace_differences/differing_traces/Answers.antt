use Rattle.std.proofs.Common.{refl}
use Rattle.card_set.specs.Spelling.{rank_lettered, slot_spelled, suit_lettered}
use Rattle.worked_hands.proofs.trace_differences.differing_traces.Goals as goal

pub returns-clause-a_card_that_is_known : goal.returns-clause-a_card_that_is_known
unfolding slot_spelled rank_lettered suit_lettered
returns-clause-a_card_that_is_known c = λ hand. refl

pub returns-clause-another_card : goal.returns-clause-another_card
unfolding slot_spelled rank_lettered suit_lettered
returns-clause-another_card c = λ hand. refl

pub returns-clause-a_discard : goal.returns-clause-a_discard
unfolding slot_spelled rank_lettered suit_lettered
returns-clause-a_discard c = λ hand. refl

pub returns-clause-a_card_of_the_board : goal.returns-clause-a_card_of_the_board
unfolding slot_spelled rank_lettered suit_lettered
returns-clause-a_card_of_the_board c = λ hand. refl

pub returns-clause-a_shown_seat : goal.returns-clause-a_shown_seat
unfolding slot_spelled rank_lettered suit_lettered
returns-clause-a_shown_seat c = λ hand. refl

pub returns-clause-a_finishing_stack : goal.returns-clause-a_finishing_stack
unfolding slot_spelled rank_lettered suit_lettered
returns-clause-a_finishing_stack c = λ hand. refl
