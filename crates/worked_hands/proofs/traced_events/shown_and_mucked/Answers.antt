-- Each clause is computed.
use Rattle.std.proofs.Common.{refl}
use Rattle.card_set.specs.Spelling.{slot_spelled, rank_lettered, suit_lettered}
use Rattle.play_event.specs.Due.{turn}
use Rattle.play_event.specs.Reasons.{why}
use Rattle.play_event.specs.Scripts.{with_event}
use Rattle.worked_hands.proofs.traced_events.shown_and_mucked.Goals as goal

pub returns-clause-both_showed : goal.returns-clause-both_showed
unfolding turn why with_event slot_spelled rank_lettered suit_lettered
returns-clause-both_showed c = refl

pub returns-clause-known_hands_are_shown : goal.returns-clause-known_hands_are_shown
unfolding turn why with_event slot_spelled rank_lettered suit_lettered
returns-clause-known_hands_are_shown c = refl

pub returns-clause-an_unknown_hand_is_mucked : goal.returns-clause-an_unknown_hand_is_mucked
unfolding turn why with_event slot_spelled rank_lettered suit_lettered
returns-clause-an_unknown_hand_is_mucked c = refl

pub returns-clause-and_so_is_a_known_hand_that_mucks : goal.returns-clause-and_so_is_a_known_hand_that_mucks
unfolding turn why with_event slot_spelled rank_lettered suit_lettered
returns-clause-and_so_is_a_known_hand_that_mucks c = refl
