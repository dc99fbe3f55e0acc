use Rattle.std.proofs.Common.{◌≡◌, ◌+◌, [], Ok, map, ap, refl, arith, length}
use Rattle.std.proofs.lemmas.Result.{err_from_is_err_and}
use Rattle.acpc_game.specs.Parts.{lines_of}
use Rattle.acpc_game.specs.Entries.{entry_said}
use Rattle.acpc_game.specs.GameEntries.{entries_after}
use Rattle.acpc_game.proofs.Steps.{fails_first, line_read, line_fails, lines_done}
use Rattle.acpc_game.proofs.lines.read_lines.Goals as goal

pub returns-in_err-take_line : goal.returns-in_err-take_line
returns-in_err-take_line c =
    let p = err_from_is_err_and c.from_residual.result c.from_residual.ensures.1 in
    let lines = lines_of c.args.bytes.now in
    let stop = c.in_err-take_line.field-0.0 in
    rw (p.1, p.2) (fails_first stop (entries_after c.args.no_limit [] 1 lines) (λ entries. Ok (entries, length lines)) (line_fails c.args.no_limit (map entry_said c.loop-line.entries.items) (c.loop-line.count + 1) (lines_of c.loop-line.rest.now) (entries_after c.args.no_limit [] 1 lines) stop c.in-Some.line.now (lines_of c.in-Some.behind.now) c.in-Some.ensures.lines c.in_err-take_line.ensures.err c.loop-line.invariant.read))

pub loop-line-preserved : goal.loop-line-preserved
loop-line-preserved c =
    let inv = c.loop-line.invariant in
    record {
      few = omega (arith, inv.few, c.in-Some.ensures.shorter);
      count = omega (arith, inv.count, ap length c.in-Some.ensures.lines);
      read = line_read c.args.no_limit (map entry_said c.loop-line.entries.items) (c.loop-line.count + 1) (lines_of c.loop-line.rest.now) (entries_after c.args.no_limit [] 1 (lines_of c.args.bytes.now)) c.in-Some.line.now (lines_of c.in-Some.behind.now) (map entry_said c.take_line.new.entries.items) c.in-Some.ensures.lines c.in_ok-take_line.ensures.ok inv.read;
    }

pub returns : goal.returns
returns c =
    let inv = c.loop-line.invariant in
    let lines = lines_of c.args.bytes.now in
    let entries = map entry_said c.loop-line.entries.items in
    let done : entries_after c.args.no_limit [] 1 lines ≡ Ok entries = lines_done c.args.no_limit entries (c.loop-line.count + 1) (lines_of c.loop-line.rest.now) (entries_after c.args.no_limit [] 1 lines) c.in_default.ensures.lines inv.read in
    let count : length lines ≡ c.loop-line.count = omega (arith, inv.count, ap length c.in_default.ensures.lines) in
    rw (done, count) refl
