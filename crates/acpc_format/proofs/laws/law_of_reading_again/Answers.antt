use Rattle.acpc_format.proofs.SoundReads.{sound_again}
use Rattle.acpc_format.proofs.laws.law_of_reading_again.Goals as goal

pub returns : goal.returns
returns c = sound_again
