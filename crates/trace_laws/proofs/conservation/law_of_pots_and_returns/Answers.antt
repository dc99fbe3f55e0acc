use Rattle.trace_laws.proofs.TraceChips.{pots_and_returns}
use Rattle.trace_laws.proofs.conservation.law_of_pots_and_returns.Goals as goal

pub returns : goal.returns
returns c = pots_and_returns
