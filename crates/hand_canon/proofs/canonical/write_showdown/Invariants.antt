use Rattle.std.proofs.Common.{◌≡◌, ◌++◌}
use Rattle.std.specs.List.{flat_map}
use Rattle.chip_ledger.specs.Seat.{seats_of}
use Rattle.hand_canon.specs.RowTests.{showings_from}
use Rattle.hand_canon.specs.SaidSoFar.{words_of}
use Rattle.hand_canon.proofs.canonical.write_showdown.Given as goal

-- what the seats so far have to say is written
abbrev pub invariant-loop-index : goal.invariant-loop-index
invariant-loop-index l = words_of l.written ≡ words_of l.fn.written ++ flat_map (showings_from l.folded l.trace.shown l.held) (seats_of l.index)
