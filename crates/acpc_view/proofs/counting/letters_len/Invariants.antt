-- The moves so far are counted, and the bytes of their letters.
use Rattle.std.proofs.Common.{◌≡◌, ◌≤◌, ◌*◌, length, map, take}
use Rattle.play_event.specs.CanonScript.{plain_moves}
use Rattle.play_event.specs.Played.{move_said}
use Rattle.acpc_format.specs.Betting.{letters_on}
use Rattle.acpc_format.specs.Puts.{HavePut}
use Rattle.acpc_view.proofs.counting.letters_len.Given as goal

abbrev pub invariant-loop-played : goal.invariant-loop-played
invariant-loop-played l = record {
  put : HavePut l.setup (plain_moves (map move_said (take l.played-index l.moves))) l.put;
  counted : l.all ≡ length (letters_on l.no_limit l.setup l.street (plain_moves (map move_said (take l.played-index l.moves))));
  few : l.all ≤ 21 * l.played-index;
}
