-- Each clause is computed.
use Rattle.std.proofs.Common.{refl}
use Rattle.card_set.specs.Spelling.{slot_spelled, rank_lettered, suit_lettered}
use Rattle.play_event.specs.Due.{turn}
use Rattle.play_event.specs.Reasons.{why}
use Rattle.play_event.specs.Scripts.{with_event}
use Rattle.worked_hands.proofs.cards.deals.Goals as goal

pub returns-clause-a_third_hole_card : goal.returns-clause-a_third_hole_card
unfolding turn why with_event slot_spelled rank_lettered suit_lettered
returns-clause-a_third_hole_card c = refl

pub returns-clause-a_misspelled_card : goal.returns-clause-a_misspelled_card
unfolding turn why with_event slot_spelled rank_lettered suit_lettered
returns-clause-a_misspelled_card c = refl

pub returns-clause-a_seat_dealt_twice : goal.returns-clause-a_seat_dealt_twice
unfolding turn why with_event slot_spelled rank_lettered suit_lettered
returns-clause-a_seat_dealt_twice c = refl

pub returns-clause-a_seat_that_is_not_there : goal.returns-clause-a_seat_that_is_not_there
unfolding turn why with_event slot_spelled rank_lettered suit_lettered
returns-clause-a_seat_that_is_not_there c = refl

pub returns-clause-a_card_dealt_twice : goal.returns-clause-a_card_dealt_twice
unfolding turn why with_event slot_spelled rank_lettered suit_lettered
returns-clause-a_card_dealt_twice c = refl

pub returns-clause-a_move_before_the_deals : goal.returns-clause-a_move_before_the_deals
unfolding turn why with_event slot_spelled rank_lettered suit_lettered
returns-clause-a_move_before_the_deals c = refl

pub returns-clause-a_board_before_its_street : goal.returns-clause-a_board_before_its_street
unfolding turn why with_event slot_spelled rank_lettered suit_lettered
returns-clause-a_board_before_its_street c = refl

pub returns-clause-a_hole_card_in_place_of_the_board : goal.returns-clause-a_hole_card_in_place_of_the_board
unfolding turn why with_event slot_spelled rank_lettered suit_lettered
returns-clause-a_hole_card_in_place_of_the_board c = refl

pub returns-clause-a_board_of_three_cards : goal.returns-clause-a_board_of_three_cards
unfolding turn why with_event slot_spelled rank_lettered suit_lettered
returns-clause-a_board_of_three_cards c = refl

pub returns-clause-a_board_of_four_cards : goal.returns-clause-a_board_of_four_cards
unfolding turn why with_event slot_spelled rank_lettered suit_lettered
returns-clause-a_board_of_four_cards c = refl
