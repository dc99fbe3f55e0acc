use Rattle.poker_cli.proofs.ComparedRuns.{other_told, same_told}
use Rattle.poker_cli.proofs.laws.law_of_compared_hands.Goals as goal

pub returns : goal.returns
returns c = record { same = same_told; other = other_told }
