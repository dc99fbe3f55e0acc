-- The law holds of any shares of a pot.
use Rattle.showdown_split.proofs.ShareLaws.{goes_to_best}
use Rattle.showdown_split.proofs.laws.only_the_best_shown_hands_win.Goals as goal

pub returns : goal.returns
returns c = goes_to_best
