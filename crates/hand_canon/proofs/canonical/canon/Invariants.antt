use Rattle.std.proofs.Common.{◌≡◌}
use Rattle.std.specs.List.{flat_map, range_with_len}
use Rattle.play_event.specs.CanonScript.{plain_moves, street_said}
use Rattle.hand_canon.specs.TraceRows.{core_said}
use Rattle.hand_canon.specs.SaidSoFar.{words_of}
use Rattle.hand_canon.proofs.canonical.canon.Given as goal

-- the streets so far are written
abbrev pub invariant-loop-index : goal.invariant-loop-index
invariant-loop-index l = words_of l.written ≡ flat_map (street_said l.trace.setup (core_said l.trace).places (plain_moves (core_said l.trace).moves)) (range_with_len 1 l.index)
