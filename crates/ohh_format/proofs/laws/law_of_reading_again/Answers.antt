use Rattle.ohh_format.proofs.SoundPlays.{sound_again}
use Rattle.ohh_format.proofs.laws.law_of_reading_again.Goals as goal

pub returns : goal.returns
returns c = sound_again
