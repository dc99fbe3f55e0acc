use Rattle.trace_laws.proofs.OneTrace.{one_core, one_past}
use Rattle.trace_laws.proofs.laws.law_of_one_trace.Goals as goal

pub returns-clause-one_past : goal.returns-clause-one_past
returns-clause-one_past c = one_past

pub returns-clause-one_core : goal.returns-clause-one_core
returns-clause-one_core c = one_core
