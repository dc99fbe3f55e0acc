use Rattle.poker_cli.proofs.LawfulFormats.{runs_by_way}
use Rattle.poker_cli.proofs.laws.law_of_runs_by_way.Goals as goal

pub returns : goal.returns
returns c = runs_by_way
