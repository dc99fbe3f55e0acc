use Rattle.play_event.specs.PackedOnce.{events_same}
use Rattle.play_event.proofs.packing.law_of_packing.Goals as goal

pub returns : goal.returns
returns c = events_same
