-- The law holds of any shares of a pot.
use Rattle.showdown_split.proofs.ShareLaws.{leaves_none_out}
use Rattle.showdown_split.proofs.laws.no_winner_is_left_out.Goals as goal

pub returns : goal.returns
returns c = leaves_none_out
