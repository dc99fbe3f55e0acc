-- Each clause is computed.
use Rattle.std.proofs.Common.{refl}
use Rattle.card_set.specs.Ranks.{ranks_of, occurring, times, falling_heights}
use Rattle.card_set.specs.Spelling.{slot_spelled, rank_lettered, suit_lettered}
use Rattle.card_set.specs.UpCards.{up_high_class, low_class}
use Rattle.play_event.specs.Due.{turn}
use Rattle.play_event.specs.Reasons.{why}
use Rattle.play_event.specs.Scripts.{with_event}
use Rattle.worked_hands.proofs.openers.bring_ins.Goals as goal

pub returns-clause-the_lowest_suit_brings_in : goal.returns-clause-the_lowest_suit_brings_in
unfolding turn why with_event slot_spelled rank_lettered suit_lettered up_high_class low_class ranks_of occurring times falling_heights
returns-clause-the_lowest_suit_brings_in c = refl

pub returns-clause-and_not_the_other_seat : goal.returns-clause-and_not_the_other_seat
unfolding turn why with_event slot_spelled rank_lettered suit_lettered up_high_class low_class ranks_of occurring times falling_heights
returns-clause-and_not_the_other_seat c = refl

pub returns-clause-its_size : goal.returns-clause-its_size
unfolding turn why with_event slot_spelled rank_lettered suit_lettered up_high_class low_class ranks_of occurring times falling_heights
returns-clause-its_size c = refl

pub returns-clause-the_highest_card_brings_in_in_razz : goal.returns-clause-the_highest_card_brings_in_in_razz
unfolding turn why with_event slot_spelled rank_lettered suit_lettered up_high_class low_class ranks_of occurring times falling_heights
returns-clause-the_highest_card_brings_in_in_razz c = refl

pub returns-clause-where_the_ace_is_low : goal.returns-clause-where_the_ace_is_low
unfolding turn why with_event slot_spelled rank_lettered suit_lettered up_high_class low_class ranks_of occurring times falling_heights
returns-clause-where_the_ace_is_low c = refl

pub returns-clause-an_unknown_up_card : goal.returns-clause-an_unknown_up_card
unfolding turn why with_event slot_spelled rank_lettered suit_lettered up_high_class low_class ranks_of occurring times falling_heights
returns-clause-an_unknown_up_card c = refl

pub returns-clause-a_seat_without_chips_may_not : goal.returns-clause-a_seat_without_chips_may_not
unfolding turn why with_event slot_spelled rank_lettered suit_lettered up_high_class low_class ranks_of occurring times falling_heights
returns-clause-a_seat_without_chips_may_not c = refl

pub returns-clause-none_with_one_able_seat : goal.returns-clause-none_with_one_able_seat
unfolding turn why with_event slot_spelled rank_lettered suit_lettered up_high_class low_class ranks_of occurring times falling_heights
returns-clause-none_with_one_able_seat c = refl
