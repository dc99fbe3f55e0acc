-- Each clause is computed.
use Rattle.std.proofs.Common.{refl}
use Rattle.card_set.specs.Ranks.{ranks_of, occurring, times, falling_heights}
use Rattle.card_set.specs.Spelling.{slot_spelled, rank_lettered, suit_lettered}
use Rattle.card_set.specs.UpCards.{up_high_class, low_class}
use Rattle.play_event.specs.Due.{turn}
use Rattle.play_event.specs.Reasons.{why}
use Rattle.play_event.specs.Scripts.{with_event}
use Rattle.worked_hands.proofs.ends.shows_before_the_end.Goals as goal

pub returns-clause-shows_before_the_river : goal.returns-clause-shows_before_the_river
unfolding turn why with_event slot_spelled rank_lettered suit_lettered up_high_class low_class ranks_of occurring times falling_heights
returns-clause-shows_before_the_river c = refl

pub returns-clause-its_chips : goal.returns-clause-its_chips
unfolding turn why with_event slot_spelled rank_lettered suit_lettered up_high_class low_class ranks_of occurring times falling_heights
returns-clause-its_chips c = refl

pub returns-clause-all_have_shown : goal.returns-clause-all_have_shown
unfolding turn why with_event slot_spelled rank_lettered suit_lettered up_high_class low_class ranks_of occurring times falling_heights
returns-clause-all_have_shown c = refl

pub returns-clause-a_show_after_the_call : goal.returns-clause-a_show_after_the_call
unfolding turn why with_event slot_spelled rank_lettered suit_lettered up_high_class low_class ranks_of occurring times falling_heights
returns-clause-a_show_after_the_call c = refl

pub returns-clause-not_before_the_call : goal.returns-clause-not_before_the_call
unfolding turn why with_event slot_spelled rank_lettered suit_lettered up_high_class low_class ranks_of occurring times falling_heights
returns-clause-not_before_the_call c = refl

pub returns-clause-a_muck_waits_for_the_showdown : goal.returns-clause-a_muck_waits_for_the_showdown
unfolding turn why with_event slot_spelled rank_lettered suit_lettered up_high_class low_class ranks_of occurring times falling_heights
returns-clause-a_muck_waits_for_the_showdown c = refl

pub returns-clause-down_cards_alone : goal.returns-clause-down_cards_alone
unfolding turn why with_event slot_spelled rank_lettered suit_lettered up_high_class low_class ranks_of occurring times falling_heights
returns-clause-down_cards_alone c = refl

pub returns-clause-not_with_an_unknown_up : goal.returns-clause-not_with_an_unknown_up
unfolding turn why with_event slot_spelled rank_lettered suit_lettered up_high_class low_class ranks_of occurring times falling_heights
returns-clause-not_with_an_unknown_up c = refl
