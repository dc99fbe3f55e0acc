use Rattle.std.proofs.Common.{refl}
use Rattle.std.specs.Fmt.{digits}
use Rattle.worked_hands.proofs.note_differences.notes_that_are_no_other.Goals as goal

pub returns-clause-its_place : goal.returns-clause-its_place
unfolding digits
returns-clause-its_place c = refl
