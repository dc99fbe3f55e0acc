use Rattle.std.proofs.Common.{length}
use Rattle.acpc_game.proofs.supported.+find_last_seat.Given as goal

abbrev pub decreases-find_last_seat : goal.decreases-find_last_seat
decreases-find_last_seat l = length l.numbers.now
