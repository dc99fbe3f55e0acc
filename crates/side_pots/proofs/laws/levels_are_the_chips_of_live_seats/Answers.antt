-- The law holds of any stakes.
use Rattle.side_pots.proofs.LevelLaw.{levels-AreLevels}
use Rattle.side_pots.proofs.laws.levels_are_the_chips_of_live_seats.Goals as goal

pub returns : goal.returns
returns c = levels-AreLevels
