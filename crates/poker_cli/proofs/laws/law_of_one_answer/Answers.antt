use Rattle.poker_cli.proofs.OneAnswer.{one_answer}
use Rattle.poker_cli.proofs.laws.law_of_one_answer.Goals as goal

pub returns : goal.returns
returns c = one_answer
