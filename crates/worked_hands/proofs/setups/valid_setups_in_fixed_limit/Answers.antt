-- Each setup passes the tests.
use Rattle.std.proofs.Common.{refl}
use Rattle.worked_hands.specs.Setups.{ante_all_in, fixed_limit, limit_short, limit_three, low_blinds, one_able, razz, stud, stud_short, stud_three, triple_draw}
use Rattle.worked_hands.proofs.ValidBy.{valid_by}
use Rattle.worked_hands.proofs.setups.valid_setups_in_fixed_limit.Goals as goal

pub returns-clause-two_seats : goal.returns-clause-two_seats
returns-clause-two_seats c = valid_by fixed_limit refl refl refl refl

pub returns-clause-a_short_stack : goal.returns-clause-a_short_stack
returns-clause-a_short_stack c = valid_by limit_short refl refl refl refl

pub returns-clause-three_seats : goal.returns-clause-three_seats
returns-clause-three_seats c = valid_by limit_three refl refl refl refl

pub returns-clause-blinds_below_the_bet : goal.returns-clause-blinds_below_the_bet
returns-clause-blinds_below_the_bet c = valid_by low_blinds refl refl refl refl

pub returns-clause-two_in_stud : goal.returns-clause-two_in_stud
returns-clause-two_in_stud c = valid_by stud refl refl refl refl

pub returns-clause-a_stack_of_two : goal.returns-clause-a_stack_of_two
returns-clause-a_stack_of_two c = valid_by stud_short refl refl refl refl

pub returns-clause-a_stack_of_the_ante : goal.returns-clause-a_stack_of_the_ante
returns-clause-a_stack_of_the_ante c = valid_by one_able refl refl refl refl

pub returns-clause-three_in_stud_with_one : goal.returns-clause-three_in_stud_with_one
returns-clause-three_in_stud_with_one c = valid_by ante_all_in refl refl refl refl

pub returns-clause-a_bring_in_above_the_bet : goal.returns-clause-a_bring_in_above_the_bet
returns-clause-a_bring_in_above_the_bet c = valid_by stud_three refl refl refl refl

pub returns-clause-two_in_razz : goal.returns-clause-two_in_razz
returns-clause-two_in_razz c = valid_by razz refl refl refl refl

pub returns-clause-six_in_triple_draw : goal.returns-clause-six_in_triple_draw
returns-clause-six_in_triple_draw c = valid_by triple_draw refl refl refl refl
