use Rattle.std.proofs.Common.{◌≡◌, ◌+◌, [], length}
use Rattle.acpc_game.specs.Letters.{scan}
use Rattle.acpc_reading.specs.Betting.{bets_after, betting_said}
use Rattle.acpc_reading.specs.Views.{bets_in}
use Rattle.acpc_reading.proofs.letters.read_betting.Given as goal

-- the betting so far and that of the letters that are left make the whole betting
abbrev pub invariant-loop-letter : goal.invariant-loop-letter
invariant-loop-letter l = record {
  begins : (scan l.rest).0 ≡ [];
  place_is : l.place + length l.rest ≡ l.at + length l.fn.text;
  read : bets_after l.no_limit (bets_in l.betting) l.place (scan l.rest).1 ≡ betting_said l.no_limit l.fn.betting.file_moves l.at l.fn.text;
}

abbrev pub decreases-loop-letter : goal.decreases-loop-letter
decreases-loop-letter l = length l.rest
