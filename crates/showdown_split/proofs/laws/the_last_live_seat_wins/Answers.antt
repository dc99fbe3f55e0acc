-- The only pot goes to the only live seat.
use Rattle.showdown_split.proofs.LastSeat.{last_seat_wins}
use Rattle.showdown_split.proofs.laws.the_last_live_seat_wins.Goals as goal

pub returns : goal.returns
returns c = last_seat_wins
