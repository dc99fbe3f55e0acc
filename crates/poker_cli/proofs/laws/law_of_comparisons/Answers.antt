use Rattle.poker_cli.proofs.ComparedRuns.{found_other, found_same, other_differs, same_done}
use Rattle.poker_cli.proofs.laws.law_of_comparisons.Goals as goal

pub returns : goal.returns
returns c = record { done = found_same; differs = found_other; same = same_done; different = other_differs }
