use Rattle.std.proofs.Common.{◌≡◌, ◌++◌, map}
use Rattle.std.specs.List.{flat_map}
use Rattle.chip_ledger.specs.Seat.{seats_of}
use Rattle.ohh_writing.specs.Actions.{action_said, straddle_post}
use Rattle.ohh_writing.proofs.posts.push_straddles.Given as goal

-- the straddles of the seats so far are appended
abbrev pub invariant-loop-index : goal.invariant-loop-index
invariant-loop-index l = map action_said l.actions.items ≡ map action_said l.fn.actions.items ++ flat_map (straddle_post l.setup) (seats_of l.index)
