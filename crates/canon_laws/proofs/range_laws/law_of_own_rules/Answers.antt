-- Each move of a legal script suits its rules.
use Rattle.canon_laws.proofs.SuitedRules.{suits_own}
use Rattle.canon_laws.proofs.range_laws.law_of_own_rules.Goals as goal

pub returns : goal.returns
returns c = λ setup rules script played. suits_own setup rules script played
