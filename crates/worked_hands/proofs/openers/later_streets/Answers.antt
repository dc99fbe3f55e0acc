-- Each clause is computed.
use Rattle.std.proofs.Common.{refl}
use Rattle.card_set.specs.Ranks.{ranks_of, occurring, times, falling_heights}
use Rattle.card_set.specs.Spelling.{slot_spelled, rank_lettered, suit_lettered}
use Rattle.card_set.specs.UpCards.{up_high_class, low_class}
use Rattle.play_event.specs.Due.{turn}
use Rattle.play_event.specs.Reasons.{why}
use Rattle.play_event.specs.Scripts.{with_event}
use Rattle.worked_hands.proofs.openers.later_streets.Goals as goal

pub returns-clause-the_best_up_cards_open : goal.returns-clause-the_best_up_cards_open
unfolding turn why with_event slot_spelled rank_lettered suit_lettered up_high_class low_class ranks_of occurring times falling_heights
returns-clause-the_best_up_cards_open c = refl

pub returns-clause-of_even_ones_the_lower_seat : goal.returns-clause-of_even_ones_the_lower_seat
unfolding turn why with_event slot_spelled rank_lettered suit_lettered up_high_class low_class ranks_of occurring times falling_heights
returns-clause-of_even_ones_the_lower_seat c = refl

pub returns-clause-the_lowest_up_cards_open_in_razz : goal.returns-clause-the_lowest_up_cards_open_in_razz
unfolding turn why with_event slot_spelled rank_lettered suit_lettered up_high_class low_class ranks_of occurring times falling_heights
returns-clause-the_lowest_up_cards_open_in_razz c = refl
