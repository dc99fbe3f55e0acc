use Rattle.trace_laws.proofs.TraceStacks.{stacks_and_shares}
use Rattle.trace_laws.proofs.conservation.law_of_finishing_stacks.Goals as goal

pub returns : goal.returns
returns c = stacks_and_shares
