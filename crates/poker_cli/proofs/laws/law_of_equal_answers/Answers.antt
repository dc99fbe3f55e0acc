use Rattle.poker_cli.proofs.EqualAnswers.{answer_again, answers_by_way, equal_answers}
use Rattle.poker_cli.proofs.laws.law_of_equal_answers.Goals as goal

pub returns : goal.returns
returns c = record { equal = equal_answers; again = answer_again; by_way = answers_by_way }
