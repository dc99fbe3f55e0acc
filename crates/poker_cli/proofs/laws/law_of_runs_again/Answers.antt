use Rattle.poker_cli.proofs.LawfulFormats.{runs_again}
use Rattle.poker_cli.proofs.laws.law_of_runs_again.Goals as goal

pub returns : goal.returns
returns c = runs_again
