use Rattle.canon_laws.proofs.OneTrace.{its_own, one_trace}
use Rattle.canon_laws.proofs.laws.law_of_canonical_scripts.Goals as goal

pub returns-clause-one_trace : goal.returns-clause-one_trace
returns-clause-one_trace c = one_trace

pub returns-clause-its_own : goal.returns-clause-its_own
returns-clause-its_own c = its_own
