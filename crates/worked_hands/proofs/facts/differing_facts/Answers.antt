-- Each clause is computed.
use Rattle.std.proofs.Common.{refl}
use Rattle.worked_hands.proofs.facts.differing_facts.Goals as goal

pub returns-clause-stack_of_the_second : goal.returns-clause-stack_of_the_second
returns-clause-stack_of_the_second c = refl

pub returns-clause-win_with_the_returned_chips : goal.returns-clause-win_with_the_returned_chips
returns-clause-win_with_the_returned_chips c = refl

pub returns-clause-pots_with_the_returned_chips : goal.returns-clause-pots_with_the_returned_chips
returns-clause-pots_with_the_returned_chips c = refl

pub returns-clause-value_without_its_sign : goal.returns-clause-value_without_its_sign
returns-clause-value_without_its_sign c = refl
