use Rattle.std.proofs.Common.{map, ap, arith, length}
use Rattle.std.proofs.lemmas.Result.{err_from_is_err_and}
use Rattle.play_event.specs.Said.{numbered}
use Rattle.acpc_game.specs.Parts.{parts_of}
use Rattle.acpc_reading.specs.Left.{parts_left}
use Rattle.acpc_reading.specs.Cards.{holes_after}
use Rattle.acpc_reading.proofs.Dealing.{hole_read, hole_fails, holes_done}
use Rattle.acpc_reading.proofs.script.take_holes.Goals as goal

pub returns-in_err-take_hole-clause-err : goal.returns-in_err-take_hole-clause-err
returns-in_err-take_hole-clause-err c =
    let l = c.loop-part in
    let p = err_from_is_err_and c.from_residual.result c.from_residual.ensures.1 in
    rw (p.1, p.2) (hole_fails c.args.at (map numbered l.script) l.seat (parts_left 124 l.rest) (holes_after c.args.at (map numbered c.args.script.now) 1 (parts_of 124 c.args.holes.now)) c.in_err-take_hole.field-0.0 c.in-Some.part.now (parts_left 124 c.in-Some.more) c.in-Some.ensures.parts c.in_err-take_hole.ensures.err l.invariant.read)

pub loop-part-preserved : goal.loop-part-preserved
loop-part-preserved c =
    let l = c.loop-part in
    let inv = l.invariant in
    let cut = c.in-Some.ensures.parts in
    record {
      first = omega (arith, inv.first);
      count = omega (arith, inv.count, ap length cut);
      read = hole_read c.args.at (map numbered l.script) l.seat (parts_left 124 l.rest) (holes_after c.args.at (map numbered c.args.script.now) 1 (parts_of 124 c.args.holes.now)) c.in-Some.part.now (parts_left 124 c.in-Some.more) (map numbered c.take_hole.new.script) cut c.in_ok-take_hole.ensures.ok inv.read;
    }

pub returns-clause-ok : goal.returns-clause-ok
returns-clause-ok c =
    let l = c.loop-part in
    holes_done c.args.at (map numbered l.script) l.seat (parts_left 124 l.rest) (holes_after c.args.at (map numbered c.args.script.now) 1 (parts_of 124 c.args.holes.now)) c.in_default.ensures.parts l.invariant.read
