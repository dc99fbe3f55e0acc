use Rattle.hand_differences.proofs.SameCores.{one_trace}
use Rattle.hand_differences.proofs.laws.law_of_what_follows.Goals as goal

pub returns : goal.returns
returns c = λ play other sound too setup moves places shown. one_trace play other sound too (record { setup = setup; moves = moves; places = places; shown = shown })
