use Rattle.acpc_format.proofs.GameFiles.{file_again}
use Rattle.acpc_format.proofs.game_files.law_of_game_files.Goals as goal

pub returns : goal.returns
returns c = file_again
