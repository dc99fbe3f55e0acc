use Rattle.hand_differences.proofs.ExactTests.{exact_moves, exact_places}
use Rattle.hand_differences.proofs.FirstDiffering.{differ_first, first_differ}
use Rattle.hand_differences.specs.SameParts.{is_same_move, is_same_place}
use Rattle.hand_differences.proofs.laws.law_of_first_numbers.Goals as goal

pub returns-clause-moves : goal.returns-clause-moves
returns-clause-moves c = λ played others number. (differ_first is_same_move exact_moves played others number, first_differ is_same_move exact_moves played others number)

pub returns-clause-places : goal.returns-clause-places
returns-clause-places c = λ dealt others number. (differ_first is_same_place exact_places dealt others number, first_differ is_same_place exact_places dealt others number)
