-- Each clause is computed.
use Rattle.std.proofs.Common.{refl}
use Rattle.card_set.specs.Spelling.{slot_spelled, rank_lettered, suit_lettered}
use Rattle.play_event.specs.Due.{turn}
use Rattle.play_event.specs.Reasons.{why}
use Rattle.play_event.specs.Scripts.{with_event}
use Rattle.worked_hands.proofs.raises.raises_in_pot_limit.Goals as goal

pub returns-clause-the_pot : goal.returns-clause-the_pot
unfolding turn why with_event slot_spelled rank_lettered suit_lettered
returns-clause-the_pot c = refl

pub returns-clause-above_the_pot : goal.returns-clause-above_the_pot
unfolding turn why with_event slot_spelled rank_lettered suit_lettered
returns-clause-above_the_pot c = refl

pub returns-clause-too_small : goal.returns-clause-too_small
unfolding turn why with_event slot_spelled rank_lettered suit_lettered
returns-clause-too_small c = refl
