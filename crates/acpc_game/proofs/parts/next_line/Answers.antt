use Rattle.std.proofs.Common.{◌<◌, length, arith}
use Rattle.acpc_game.proofs.FoundLines.{found_line, whole_line}
use Rattle.acpc_game.proofs.parts.next_line.Goals as goal

pub returns-in-Some-clause-lines : goal.returns-in-Some-clause-lines
returns-in-Some-clause-lines c =
    rw c.strip_carriage_return.ensures.line
    (found_line c.args.text.now c.in-Some.place c.in-Some.ensures)

pub returns-in-None-clause-lines : goal.returns-in-None-clause-lines
returns-in-None-clause-lines c =
    let some : 0 < length c.args.text.now = grind arith in
    rw c.strip_carriage_return-in-None.ensures.line
    (whole_line c.args.text.now c.in-None.ensures some)
