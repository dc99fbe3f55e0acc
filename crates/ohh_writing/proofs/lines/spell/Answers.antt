-- One more play.
use Rattle.std.proofs.Common.{arith, sym, take}
use Rattle.std.proofs.lemmas.List.{length-take-le}
use Rattle.std.proofs.lemmas.Option.{get_or_from_slice_get, slice_get_within}
use Rattle.ohh_writing.proofs.Behind.{next_spelled}
use Rattle.ohh_writing.proofs.lines.spell.Goals as goal

pub loop-index-preserved : goal.loop-index-preserved
loop-index-preserved c =
    let plays = c.args.plays.now in
    let index = c.loop-index.index in
    let play = c.get.result in
    let within = slice_get_within plays index play c.get.ensures in
    next_spelled c.args.dialect plays index play c.push_line.new.out.items within (sym (get_or_from_slice_get plays index play play c.get.ensures))
    (c.in_ok-push_line.ensures.spells (take index plays) (length-take-le index plays (omega (arith, within))) c.loop-index.invariant)
