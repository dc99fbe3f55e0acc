use Rattle.std.proofs.Common.{◌≡◌, ◌++◌, length}
use Rattle.std.specs.List.{flat_map}
use Rattle.hand_canon.specs.RowTests.{said_on}
use Rattle.hand_canon.specs.SaidSoFar.{words_of}
use Rattle.hand_canon.proofs.canonical.write_moves.Given as goal

-- what is written and the moves to come are all moves of the street
abbrev pub invariant-loop-rest : goal.invariant-loop-rest
invariant-loop-rest l = words_of l.written ++ flat_map (said_on l.street) l.rest ≡ words_of l.fn.written ++ flat_map (said_on l.street) l.moves

abbrev pub decreases-loop-rest : goal.decreases-loop-rest
decreases-loop-rest l = length l.rest
