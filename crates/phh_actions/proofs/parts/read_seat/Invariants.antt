use Rattle.std.proofs.Common.{◌≡◌, ◌+◌, ◌-◌, bytes_eq, find}
use Rattle.std.specs.List.{range_with_len}
use Rattle.phh_actions.specs.Action.{seat_named}
use Rattle.phh_actions.proofs.parts.read_seat.Given as goal
use Rattle.chip_ledger.specs.SeatsSaid.{default_name}

-- no seat so far has the name
abbrev pub invariant-loop-index : goal.invariant-loop-index
invariant-loop-index l = find (λ seat. bytes_eq l.name (default_name seat)) (range_with_len (l.index + 1) (l.fn.players.number - l.index)) ≡ seat_named l.fn.players.number l.name
