use Rattle.poker_cli.proofs.Comparisons.{compares_outputs}
use Rattle.poker_cli.proofs.laws.law_of_compared_outputs.Goals as goal

pub returns : goal.returns
returns c = compares_outputs
