-- Each clause is computed.
use Rattle.std.proofs.Common.{refl}
use Rattle.card_set.specs.Spelling.{slot_spelled, rank_lettered, suit_lettered}
use Rattle.play_event.specs.Due.{turn}
use Rattle.play_event.specs.Reasons.{why}
use Rattle.play_event.specs.Scripts.{with_event}
use Rattle.worked_hands.proofs.cards.draws.Goals as goal

pub returns-clause-a_deal_past_the_deck : goal.returns-clause-a_deal_past_the_deck
unfolding turn why with_event slot_spelled rank_lettered suit_lettered
returns-clause-a_deal_past_the_deck c = refl

pub returns-clause-within_the_deck : goal.returns-clause-within_the_deck
unfolding turn why with_event slot_spelled rank_lettered suit_lettered
returns-clause-within_the_deck c = refl

pub returns-clause-not_held : goal.returns-clause-not_held
unfolding turn why with_event slot_spelled rank_lettered suit_lettered
returns-clause-not_held c = refl

pub returns-clause-out_of_order : goal.returns-clause-out_of_order
unfolding turn why with_event slot_spelled rank_lettered suit_lettered
returns-clause-out_of_order c = refl

pub returns-clause-too_many : goal.returns-clause-too_many
unfolding turn why with_event slot_spelled rank_lettered suit_lettered
returns-clause-too_many c = refl

pub returns-clause-a_card_that_is_not_owed : goal.returns-clause-a_card_that_is_not_owed
unfolding turn why with_event slot_spelled rank_lettered suit_lettered
returns-clause-a_card_that_is_not_owed c = refl

pub returns-clause-a_seat_that_is_all_in_draws : goal.returns-clause-a_seat_that_is_all_in_draws
unfolding turn why with_event slot_spelled rank_lettered suit_lettered
returns-clause-a_seat_that_is_all_in_draws c = refl

pub returns-clause-cards_of_a_draw_are_no_up_cards : goal.returns-clause-cards_of_a_draw_are_no_up_cards
unfolding turn why with_event slot_spelled rank_lettered suit_lettered
returns-clause-cards_of_a_draw_are_no_up_cards c = refl
