use Rattle.std.proofs.Common.{◌≡◌, ◌+◌, drop}
use Rattle.ohh_members.specs.Values.{seat_from, seat_of}
use Rattle.ohh_members.proofs.values.find_seat.Given as goal

-- the seat is among the ids that are left
abbrev pub invariant-loop-index : goal.invariant-loop-index
invariant-loop-index l = seat_from (l.index + 1) l.id (drop l.index l.ids) ≡ seat_of l.ids l.id
