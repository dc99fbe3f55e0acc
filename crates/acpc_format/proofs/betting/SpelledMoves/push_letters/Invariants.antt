use Rattle.std.proofs.Common.{◌≡◌, ◌++◌, map, take}
use Rattle.play_event.specs.CanonScript.{plain_moves}
use Rattle.play_event.specs.Played.{move_said}
use Rattle.acpc_format.specs.Betting.{letters_on}
use Rattle.acpc_format.specs.Puts.{HavePut}
use Rattle.acpc_format.proofs.betting.SpelledMoves.push_letters.Given as goal

-- the moves so far are counted, and their letters are written
abbrev pub invariant-loop-played : goal.invariant-loop-played
invariant-loop-played l = record {
  put : HavePut l.self.setup.now (plain_moves (map move_said (take l.played-index l.self.moves.now))) l.put;
  written : l.out.items ≡ l.fn.out.items ++ letters_on l.self.no_limit l.self.setup.now l.street (plain_moves (map move_said (take l.played-index l.self.moves.now)));
}
