use Rattle.acpc_game.proofs.GameAgain.{kept_again}
use Rattle.acpc_game.proofs.laws.law_of_reading_again.Goals as goal

pub returns : goal.returns
returns c = kept_again c.args.game c.show_caps.ensures
