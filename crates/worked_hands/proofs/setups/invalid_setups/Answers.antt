-- Each setup breaks one condition.
use Rattle.std.proofs.Common.{◌≡◌, ◌≤◌, ℕ, refl, arith, lit≤}
use Rattle.card_set.proofs.Tests.{false_true}
use Rattle.worked_hands.proofs.setups.invalid_setups.Goals as goal

pub returns-clause-of_two_seats_the_second_has_the_greater_blind : goal.returns-clause-of_two_seats_the_second_has_the_greater_blind
returns-clause-of_two_seats_the_second_has_the_greater_blind c = λ valid. let less : 2 ≤ 1 = valid.heads_up refl in omega (arith, less)

pub returns-clause-a_stack_of_nothing : goal.returns-clause-a_stack_of_nothing
returns-clause-a_stack_of_nothing c = λ valid. let some : 1 ≤ 0 = (valid.stacks 1 (lit≤ tt) (lit≤ tt)).0 in omega (arith, some)

pub returns-clause-a_bet_size_that_the_game_does_not_use : goal.returns-clause-a_bet_size_that_the_game_does_not_use
returns-clause-a_bet_size_that_the_game_does_not_use c = λ valid. let none : ◌≡◌ {A = ℕ} 1 0 = valid.small_bet in omega (arith, none)

pub returns-clause-dead_antes_where_all_are_nothing : goal.returns-clause-dead_antes_where_all_are_nothing
returns-clause-dead_antes_where_all_are_nothing c = λ valid. false_true (valid.dead_antes refl)

pub returns-clause-eight_seats_of_stud : goal.returns-clause-eight_seats_of_stud
returns-clause-eight_seats_of_stud c = λ valid. let few : 8 ≤ 7 = valid.few_seats in omega (arith, few)
