-- Each setup passes the tests.
use Rattle.std.proofs.Common.{refl}
use Rattle.worked_hands.specs.Setups.{antes_and_blinds, deep_stacks, draw_short, first_short, heads_up, no_limit, one_dead_ante, pot_limit, pot_short, raked, single_draw, third_short}
use Rattle.worked_hands.proofs.ValidBy.{valid_by}
use Rattle.worked_hands.proofs.setups.valid_setups_in_no_limit.Goals as goal

pub returns-clause-three_seats : goal.returns-clause-three_seats
returns-clause-three_seats c = valid_by no_limit refl refl refl refl

pub returns-clause-the_greatest_stacks : goal.returns-clause-the_greatest_stacks
returns-clause-the_greatest_stacks c = valid_by deep_stacks refl refl refl refl

pub returns-clause-a_rake : goal.returns-clause-a_rake
returns-clause-a_rake c = valid_by (raked 1) refl refl refl refl

pub returns-clause-a_first_short_stack : goal.returns-clause-a_first_short_stack
returns-clause-a_first_short_stack c = valid_by first_short refl refl refl refl

pub returns-clause-a_third_short_stack : goal.returns-clause-a_third_short_stack
returns-clause-a_third_short_stack c = valid_by third_short refl refl refl refl

pub returns-clause-a_dead_ante : goal.returns-clause-a_dead_ante
returns-clause-a_dead_ante c = valid_by one_dead_ante refl refl refl refl

pub returns-clause-antes : goal.returns-clause-antes
returns-clause-antes c = valid_by antes_and_blinds refl refl refl refl

pub returns-clause-two_seats : goal.returns-clause-two_seats
returns-clause-two_seats c = valid_by heads_up refl refl refl refl

pub returns-clause-omaha : goal.returns-clause-omaha
returns-clause-omaha c = valid_by pot_limit refl refl refl refl

pub returns-clause-omaha_with_a_short_stack : goal.returns-clause-omaha_with_a_short_stack
returns-clause-omaha_with_a_short_stack c = valid_by pot_short refl refl refl refl

pub returns-clause-draw : goal.returns-clause-draw
returns-clause-draw c = valid_by single_draw refl refl refl refl

pub returns-clause-draw_with_a_short_stack : goal.returns-clause-draw_with_a_short_stack
returns-clause-draw_with_a_short_stack c = valid_by draw_short refl refl refl refl
