use Rattle.acpc_game.proofs.GameAgain.{game_again}
use Rattle.acpc_game.proofs.laws.law_of_spellings.Goals as goal

pub returns : goal.returns
returns c = game_again
