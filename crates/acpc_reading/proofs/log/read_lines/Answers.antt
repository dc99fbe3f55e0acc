use Rattle.std.proofs.Common.{◌+◌, [], Ok, map, ap, arith}
use Rattle.std.proofs.lemmas.Result.{err_from_is_err_and}
use Rattle.first_fault.specs.Reading.{◌>>=◌}
use Rattle.acpc_game.specs.Parts.{lines_of}
use Rattle.acpc_reading.specs.Logs.{hands_after, reading}
use Rattle.acpc_reading.specs.RecordView.{record_said}
use Rattle.acpc_game.proofs.Steps.{fails_first}
use Rattle.acpc_reading.proofs.Lines.{line_read, line_fails, lines_done}
use Rattle.acpc_reading.proofs.log.read_lines.Goals as goal

pub returns-in_err-take_line-clause-said : goal.returns-in_err-take_line-clause-said
unfolding reading
returns-in_err-take_line-clause-said c =
    let p = err_from_is_err_and c.from_residual-in_err-take_line.result c.from_residual-in_err-take_line.ensures.1 in
    let total = hands_after c.args.game.now ([], 0) 1 (lines_of c.args.bytes.now) in
    let stop = c.in_err-take_line.field-0.0 in
    rw (p.1, p.2) (fails_first stop total (λ hands. Ok hands.0) (line_fails c.args.game.now (map record_said c.loop-line.records, c.loop-line.betting.file_moves) (c.loop-line.count + 1) (lines_of c.loop-line.rest.now) total stop c.in-Some.line.now (lines_of c.in-Some.behind.now) c.in-Some.ensures.lines c.in_err-take_line.ensures.err c.loop-line.invariant.read))

pub loop-line-preserved : goal.loop-line-preserved
loop-line-preserved c =
    let inv = c.loop-line.invariant in
    record {
      few = omega (arith, inv.few, c.in-Some.ensures.shorter);
      kept = c.in_ok-take_line.ensures.kept;
      read = line_read c.args.game.now (map record_said c.loop-line.records, c.loop-line.betting.file_moves) (c.loop-line.count + 1) (lines_of c.loop-line.rest.now) (hands_after c.args.game.now ([], 0) 1 (lines_of c.args.bytes.now)) c.in-Some.line.now (lines_of c.in-Some.behind.now) (map record_said c.take_line.new.records, c.take_line.new.betting.file_moves) c.in-Some.ensures.lines c.in_ok-take_line.ensures.ok inv.read;
    }

pub returns-clause-said : goal.returns-clause-said
unfolding reading
returns-clause-said c = ap (λ read. read >>= λ hands. Ok hands.0) (lines_done c.args.game.now (map record_said c.loop-line.records, c.loop-line.betting.file_moves) (c.loop-line.count + 1) (lines_of c.loop-line.rest.now) (hands_after c.args.game.now ([], 0) 1 (lines_of c.args.bytes.now)) c.in_default.ensures.lines c.loop-line.invariant.read)

pub returns-clause-kept : goal.returns-clause-kept
returns-clause-kept c = (c.loop-line.betting.file_moves, c.loop-line.invariant.kept)
