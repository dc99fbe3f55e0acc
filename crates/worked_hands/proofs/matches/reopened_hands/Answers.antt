-- Each clause is computed.
use Rattle.std.proofs.Common.{refl}
use Rattle.card_set.specs.Ranks.{falling_heights, times, occurring, ranks_of}
use Rattle.card_set.specs.Spelling.{slot_spelled, rank_lettered, suit_lettered}
use Rattle.card_set.specs.UpCards.{up_high_class}
use Rattle.chip_ledger.specs.Pots.{after_return, levels, layers, pots_at, pots_of}
use Rattle.play_event.specs.Due.{turn}
use Rattle.play_event.specs.Reasons.{why}
use Rattle.play_event.specs.Scripts.{with_event}
use Rattle.play_event.specs.CanonScript.{canonical_script}
use Rattle.worked_hands.proofs.matches.reopened_hands.Goals as goal

pub returns-clause-the_hand_is_legal : goal.returns-clause-the_hand_is_legal
unfolding turn why with_event canonical_script slot_spelled rank_lettered suit_lettered up_high_class ranks_of occurring times falling_heights after_return levels layers pots_at pots_of
returns-clause-the_hand_is_legal c = refl

pub returns-clause-a_raise_is_closed : goal.returns-clause-a_raise_is_closed
unfolding turn why with_event canonical_script slot_spelled rank_lettered suit_lettered up_high_class ranks_of occurring times falling_heights after_return levels layers pots_at pots_of
returns-clause-a_raise_is_closed c = refl

pub returns-clause-histories_refuse_it : goal.returns-clause-histories_refuse_it
unfolding turn why with_event canonical_script slot_spelled rank_lettered suit_lettered up_high_class ranks_of occurring times falling_heights after_return levels layers pots_at pots_of
returns-clause-histories_refuse_it c = refl

pub returns-clause-its_canon_is_legal : goal.returns-clause-its_canon_is_legal
unfolding turn why with_event canonical_script slot_spelled rank_lettered suit_lettered up_high_class ranks_of occurring times falling_heights after_return levels layers pots_at pots_of
returns-clause-its_canon_is_legal c = refl

pub returns-clause-it_is_complete : goal.returns-clause-it_is_complete
unfolding turn why with_event canonical_script slot_spelled rank_lettered suit_lettered up_high_class ranks_of occurring times falling_heights after_return levels layers pots_at pots_of
returns-clause-it_is_complete c = refl

pub returns-clause-it_has_the_trace : goal.returns-clause-it_has_the_trace
unfolding turn why with_event canonical_script slot_spelled rank_lettered suit_lettered up_high_class ranks_of occurring times falling_heights after_return levels layers pots_at pots_of
returns-clause-it_has_the_trace c = refl
