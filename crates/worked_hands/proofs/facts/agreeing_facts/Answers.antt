-- Each clause is computed.
use Rattle.std.proofs.Common.{refl}
use Rattle.worked_hands.proofs.facts.agreeing_facts.Goals as goal

pub returns-clause-nothing : goal.returns-clause-nothing
returns-clause-nothing c = refl

pub returns-clause-everything : goal.returns-clause-everything
returns-clause-everything c = refl
