use Rattle.std.proofs.Common.{refl}
use Rattle.std.specs.Fmt.{digits}
use Rattle.worked_hands.proofs.note_differences.differing_notes.Goals as goal

pub returns-clause-a_hand : goal.returns-clause-a_hand
unfolding digits
returns-clause-a_hand c = refl
