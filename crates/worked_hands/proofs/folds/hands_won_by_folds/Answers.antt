-- Each clause is computed.
use Rattle.std.proofs.Common.{refl}
use Rattle.card_set.specs.Spelling.{slot_spelled, rank_lettered, suit_lettered}
use Rattle.chip_ledger.specs.Pots.{pots_of, after_return, levels, layers, pots_at}
use Rattle.play_event.specs.Due.{turn}
use Rattle.play_event.specs.Reasons.{why}
use Rattle.play_event.specs.Scripts.{with_event}
use Rattle.worked_hands.proofs.folds.hands_won_by_folds.Goals as goal

pub returns-clause-a_raise_and_two_folds : goal.returns-clause-a_raise_and_two_folds
unfolding turn why with_event slot_spelled rank_lettered suit_lettered pots_of after_return levels layers pots_at
returns-clause-a_raise_and_two_folds c = refl

pub returns-clause-it_is_complete : goal.returns-clause-it_is_complete
unfolding turn why with_event slot_spelled rank_lettered suit_lettered pots_of after_return levels layers pots_at
returns-clause-it_is_complete c = refl

pub returns-clause-it_ends_with : goal.returns-clause-it_ends_with
unfolding turn why with_event slot_spelled rank_lettered suit_lettered pots_of after_return levels layers pots_at
returns-clause-it_ends_with c = refl

pub returns-clause-cut_before_the_last_fold : goal.returns-clause-cut_before_the_last_fold
unfolding turn why with_event slot_spelled rank_lettered suit_lettered pots_of after_return levels layers pots_at
returns-clause-cut_before_the_last_fold c = refl

pub returns-clause-it_ends_early : goal.returns-clause-it_ends_early
unfolding turn why with_event slot_spelled rank_lettered suit_lettered pots_of after_return levels layers pots_at
returns-clause-it_ends_early c = refl

pub returns-clause-a_raise_to_three : goal.returns-clause-a_raise_to_three
unfolding turn why with_event slot_spelled rank_lettered suit_lettered pots_of after_return levels layers pots_at
returns-clause-a_raise_to_three c = refl

pub returns-clause-a_raise_to_four : goal.returns-clause-a_raise_to_four
unfolding turn why with_event slot_spelled rank_lettered suit_lettered pots_of after_return levels layers pots_at
returns-clause-a_raise_to_four c = refl

pub returns-clause-a_raise_above_the_stack : goal.returns-clause-a_raise_above_the_stack
unfolding turn why with_event slot_spelled rank_lettered suit_lettered pots_of after_return levels layers pots_at
returns-clause-a_raise_above_the_stack c = refl

pub returns-clause-a_fold_out_of_turn : goal.returns-clause-a_fold_out_of_turn
unfolding turn why with_event slot_spelled rank_lettered suit_lettered pots_of after_return levels layers pots_at
returns-clause-a_fold_out_of_turn c = refl

pub returns-clause-a_fold_after_the_end : goal.returns-clause-a_fold_after_the_end
unfolding turn why with_event slot_spelled rank_lettered suit_lettered pots_of after_return levels layers pots_at
returns-clause-a_fold_after_the_end c = refl

pub returns-clause-dead_antes : goal.returns-clause-dead_antes
unfolding turn why with_event slot_spelled rank_lettered suit_lettered pots_of after_return levels layers pots_at
returns-clause-dead_antes c = refl

pub returns-clause-a_rake_of_one_chip : goal.returns-clause-a_rake_of_one_chip
unfolding turn why with_event slot_spelled rank_lettered suit_lettered pots_of after_return levels layers pots_at
returns-clause-a_rake_of_one_chip c = refl

pub returns-clause-a_rake_of_the_whole_pot : goal.returns-clause-a_rake_of_the_whole_pot
unfolding turn why with_event slot_spelled rank_lettered suit_lettered pots_of after_return levels layers pots_at
returns-clause-a_rake_of_the_whole_pot c = refl
