use Rattle.std.proofs.Common.{◌≡◌, ◌++◌, map}
use Rattle.std.specs.List.{flat_map}
use Rattle.chip_ledger.specs.Seat.{seats_of}
use Rattle.ohh_writing.specs.Actions.{action_said, showing}
use Rattle.ohh_writing.proofs.shows.push_showings.Given as goal

-- what the seats so far do at the showdown is appended
abbrev pub invariant-loop-index : goal.invariant-loop-index
invariant-loop-index l = map action_said l.actions.items ≡ map action_said l.fn.actions.items ++ flat_map (showing l.tidy.trace.now) (seats_of l.index)
