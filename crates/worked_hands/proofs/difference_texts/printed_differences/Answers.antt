use Rattle.std.proofs.Common.{refl}
use Rattle.std.specs.Fmt.{digits}
use Rattle.worked_hands.proofs.difference_texts.printed_differences.Goals as goal

pub returns-clause-a_move : goal.returns-clause-a_move
unfolding digits
returns-clause-a_move c = refl

pub returns-clause-a_card : goal.returns-clause-a_card
unfolding digits
returns-clause-a_card c = refl

pub returns-clause-a_board_card : goal.returns-clause-a_board_card
unfolding digits
returns-clause-a_board_card c = refl

pub returns-clause-shown : goal.returns-clause-shown
unfolding digits
returns-clause-shown c = refl
