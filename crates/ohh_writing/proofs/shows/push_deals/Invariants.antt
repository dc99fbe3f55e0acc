use Rattle.std.proofs.Common.{◌≡◌, ◌++◌, Some, map}
use Rattle.std.specs.List.{flat_map}
use Rattle.chip_ledger.specs.Seat.{seats_of}
use Rattle.play_event.specs.CanonScript.{dealt_slots}
use Rattle.hand_canon.specs.TraceRows.{core_said}
use Rattle.ohh_writing.specs.Actions.{action_said, deal_written}
use Rattle.ohh_writing.proofs.shows.push_deals.Given as goal

-- the deals to the seats so far are appended
abbrev pub invariant-loop-index : goal.invariant-loop-index
invariant-loop-index l =
    map action_said l.actions.items ≡ map action_said l.fn.actions.items ++ flat_map (λ seat. deal_written seat (dealt_slots (core_said l.tidy.trace.now).places (Some seat) 1)) (seats_of l.index)
