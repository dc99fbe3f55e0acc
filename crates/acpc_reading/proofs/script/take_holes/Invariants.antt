use Rattle.std.proofs.Common.{◌≡◌, ◌+◌, ◌≤◌, length, map}
use Rattle.play_event.specs.Said.{numbered}
use Rattle.acpc_game.specs.Parts.{parts_of}
use Rattle.acpc_reading.specs.Left.{len_left, parts_left}
use Rattle.acpc_reading.specs.Cards.{holes_after}
use Rattle.acpc_reading.proofs.script.take_holes.Given as goal

-- the deals so far and those of the parts that are left are all of them
abbrev pub invariant-loop-part : goal.invariant-loop-part
invariant-loop-part l = record {
  first : 1 ≤ l.seat;
  count : l.seat + length (parts_left 124 l.rest) ≡ l.fn.players.number + 1;
  read : holes_after l.at (map numbered l.script) l.seat (parts_left 124 l.rest) ≡ holes_after l.at (map numbered l.fn.script) 1 (parts_of 124 l.fn.holes);
}

abbrev pub decreases-loop-part : goal.decreases-loop-part
decreases-loop-part l = len_left l.rest
