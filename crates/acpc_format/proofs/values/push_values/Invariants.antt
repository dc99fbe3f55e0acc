use Rattle.std.proofs.Common.{◌≡◌, ◌++◌}
use Rattle.acpc_format.specs.Values.{value_text}
use Rattle.acpc_format.specs.Seats.{for_seats}
use Rattle.acpc_format.proofs.values.push_values.Given as goal

-- the values of the seats so far are written
abbrev pub invariant-loop-index : goal.invariant-loop-index
invariant-loop-index l = l.out.items ≡ l.fn.out.items ++ for_seats (value_text l.stacks l.finish) l.index
