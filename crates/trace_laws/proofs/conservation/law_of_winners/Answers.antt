use Rattle.trace_laws.proofs.TraceWinners.{winners}
use Rattle.trace_laws.proofs.conservation.law_of_winners.Goals as goal

pub returns : goal.returns
returns c = winners
