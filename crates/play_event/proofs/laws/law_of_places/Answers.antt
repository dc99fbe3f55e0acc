use Rattle.play_event.proofs.SafePlaces.{none_clash}
use Rattle.play_event.proofs.laws.law_of_places.Goals as goal

pub returns : goal.returns
returns c = none_clash
