use Rattle.phh_reading.proofs.Games.{game_read}
use Rattle.phh_reading.proofs.setup.game.Goals as goal

pub returns : goal.returns
returns c = game_read c.args.text.now c.read.result c.read.ensures.read c.read.ensures.none
