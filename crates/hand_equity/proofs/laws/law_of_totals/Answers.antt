-- The choices of none, one and two cards are counted.
use Rattle.hand_equity.proofs.Totals.{total_none, total_one, total_two}
use Rattle.hand_equity.proofs.laws.law_of_totals.Goals as goal

pub returns-clause-none : goal.returns-clause-none
returns-clause-none c = λ code standing row is lacks. total_none code standing row is lacks

pub returns-clause-one : goal.returns-clause-one
returns-clause-one c = λ code standing row is lacks. total_one code standing row is lacks

pub returns-clause-two : goal.returns-clause-two
returns-clause-two c = λ code standing row is lacks. total_two code standing row is lacks
