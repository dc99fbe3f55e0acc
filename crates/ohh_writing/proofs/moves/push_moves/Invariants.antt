use Rattle.std.proofs.Common.{◌≡◌, ◌≤◌, ◌+◌, ◌++◌, ℕ, List, [], length, map, slice_index}
use Rattle.play_event.specs.Chips.{chips_left}
use Rattle.play_event.specs.Past.{Move}
use Rattle.play_event.specs.Played.{move_said}
use Rattle.ohh_writing.specs.Actions.{action_said, moves_written}
use Rattle.ohh_writing.proofs.moves.push_moves.Given as goal

-- after the moves so far, each seat has these chips left, and the moves to come complete the
-- actions
abbrev pub invariant-loop-played : goal.invariant-loop-played
invariant-loop-played l =
    (before : List Move)
    × (length l.left ≡ 10)
    × ((k : ℕ) → k ≤ 9 → slice_index l.left k ≡ chips_left l.setup before (k + 1))
    × (map action_said l.actions.items ++ moves_written l.dialect l.setup l.street before (map move_said l.rest)
    ≡ map action_said l.fn.actions.items ++ moves_written l.dialect l.setup l.street [] (map move_said l.moves))

abbrev pub decreases-loop-played : goal.decreases-loop-played
decreases-loop-played l = length l.rest
