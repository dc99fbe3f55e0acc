use Rattle.replay_core.proofs.OneFault.{no_fault, one_fault}
use Rattle.replay_core.proofs.fault_laws.law_of_one_fault.Goals as goal

pub returns : goal.returns
returns c = record { one = one_fault; none = no_fault }
