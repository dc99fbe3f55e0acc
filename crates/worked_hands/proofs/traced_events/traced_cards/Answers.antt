-- Each clause is computed.
use Rattle.std.proofs.Common.{refl}
use Rattle.card_set.specs.Spelling.{slot_spelled, rank_lettered, suit_lettered}
use Rattle.play_event.specs.Due.{turn}
use Rattle.play_event.specs.Reasons.{why}
use Rattle.play_event.specs.Scripts.{with_event}
use Rattle.worked_hands.proofs.traced_events.traced_cards.Goals as goal

pub returns-clause-cards_by_owner : goal.returns-clause-cards_by_owner
unfolding turn why with_event slot_spelled rank_lettered suit_lettered
returns-clause-cards_by_owner c = refl

pub returns-clause-cards_shown : goal.returns-clause-cards_shown
unfolding turn why with_event slot_spelled rank_lettered suit_lettered
returns-clause-cards_shown c = refl
