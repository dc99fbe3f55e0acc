use Rattle.poker_cli.proofs.Comparisons.{compares_output, compares_source}
use Rattle.poker_cli.proofs.laws.law_of_compared_conversions.Goals as goal

pub returns : goal.returns
returns c = record { source = compares_output; output = compares_source }
