use Rattle.std.proofs.Common.{sym, ◌∙◌}
use Rattle.convert_core.proofs.OneVerdict.{all_legal, first_not_legal, legal_plays_are, refused_first}
use Rattle.convert_core.proofs.laws.law_of_verdicts.Goals as goal

pub returns-clause-legal : goal.returns-clause-legal
returns-clause-legal c = λ records verdicts plays are.
    ((λ plays_are. all_legal plays verdicts plays_are.judged are.right (plays_are.same ∙ sym are.same)), legal_plays_are records verdicts plays are)

pub returns-clause-refused : goal.returns-clause-refused
returns-clause-refused c = λ records verdicts number why are.
    (first_not_legal records verdicts number why are, refused_first records verdicts number why are)
