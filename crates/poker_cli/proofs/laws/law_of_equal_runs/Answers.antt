use Rattle.poker_cli.proofs.LawfulFormats.{equal_runs}
use Rattle.poker_cli.proofs.laws.law_of_equal_runs.Goals as goal

pub returns : goal.returns
returns c = equal_runs
