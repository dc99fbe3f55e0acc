-- The hands of all lines are those of a log.
use Rattle.std.proofs.Common.{arith}
use Rattle.acpc_reading.proofs.log.read.Goals as goal

pub returns-clause-sound : goal.returns-clause-sound
returns-clause-sound c = c.in_ok-read_lines.ensures.kept.1.each

pub returns-clause-few : goal.returns-clause-few
returns-clause-few c = c.in_ok-read_lines.ensures.kept.1.few

pub returns-clause-moves : goal.returns-clause-moves
returns-clause-moves c =
    let kept = c.in_ok-read_lines.ensures.kept.1 in
    omega (arith, kept.moves, kept.few_moves)
