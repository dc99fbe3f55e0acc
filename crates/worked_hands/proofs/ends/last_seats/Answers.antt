-- Each clause is computed.
use Rattle.std.proofs.Common.{refl}
use Rattle.card_set.specs.Spelling.{slot_spelled, rank_lettered, suit_lettered}
use Rattle.play_event.specs.Due.{turn}
use Rattle.play_event.specs.Reasons.{why}
use Rattle.play_event.specs.Scripts.{with_event}
use Rattle.worked_hands.proofs.ends.last_seats.Goals as goal

pub returns-clause-the_last_seat_shows : goal.returns-clause-the_last_seat_shows
unfolding turn why with_event slot_spelled rank_lettered suit_lettered
returns-clause-the_last_seat_shows c = refl

pub returns-clause-or_mucks : goal.returns-clause-or_mucks
unfolding turn why with_event slot_spelled rank_lettered suit_lettered
returns-clause-or_mucks c = refl

pub returns-clause-once : goal.returns-clause-once
unfolding turn why with_event slot_spelled rank_lettered suit_lettered
returns-clause-once c = refl

pub returns-clause-and_no_other_seat : goal.returns-clause-and_no_other_seat
unfolding turn why with_event slot_spelled rank_lettered suit_lettered
returns-clause-and_no_other_seat c = refl
