-- Each clause is computed.
use Rattle.std.proofs.Common.{refl}
use Rattle.card_set.specs.Ranks.{ranks_of, occurring, times, falling_heights}
use Rattle.card_set.specs.Spelling.{slot_spelled, rank_lettered, suit_lettered}
use Rattle.card_set.specs.UpCards.{up_high_class, low_class}
use Rattle.play_event.specs.Due.{turn}
use Rattle.play_event.specs.Reasons.{why}
use Rattle.play_event.specs.Scripts.{with_event}
use Rattle.worked_hands.proofs.raises.raises_in_fixed_limit.Goals as goal

pub returns-clause-a_fourth_raise : goal.returns-clause-a_fourth_raise
unfolding turn why with_event slot_spelled rank_lettered suit_lettered up_high_class low_class ranks_of occurring times falling_heights
returns-clause-a_fourth_raise c = refl

pub returns-clause-a_second_raise_later : goal.returns-clause-a_second_raise_later
unfolding turn why with_event slot_spelled rank_lettered suit_lettered up_high_class low_class ranks_of occurring times falling_heights
returns-clause-a_second_raise_later c = refl

pub returns-clause-a_unit_goes_no_further_than_all_in : goal.returns-clause-a_unit_goes_no_further_than_all_in
unfolding turn why with_event slot_spelled rank_lettered suit_lettered up_high_class low_class ranks_of occurring times falling_heights
returns-clause-a_unit_goes_no_further_than_all_in c = refl

pub returns-clause-a_unit_over_a_bring_in : goal.returns-clause-a_unit_over_a_bring_in
unfolding turn why with_event slot_spelled rank_lettered suit_lettered up_high_class low_class ranks_of occurring times falling_heights
returns-clause-a_unit_over_a_bring_in c = refl

pub returns-clause-a_bring_in_moves_the_full_bet : goal.returns-clause-a_bring_in_moves_the_full_bet
unfolding turn why with_event slot_spelled rank_lettered suit_lettered up_high_class low_class ranks_of occurring times falling_heights
returns-clause-a_bring_in_moves_the_full_bet c = refl

pub returns-clause-low_blinds_are_no_full_bet : goal.returns-clause-low_blinds_are_no_full_bet
unfolding turn why with_event slot_spelled rank_lettered suit_lettered up_high_class low_class ranks_of occurring times falling_heights
returns-clause-low_blinds_are_no_full_bet c = refl
