-- One more play.
use Rattle.std.proofs.Common.{sym}
use Rattle.std.proofs.lemmas.Option.{get_or_from_slice_get, slice_get_within}
use Rattle.acpc_format.proofs.Lines.{line_next, texts_next}
use Rattle.acpc_format.proofs.log.write.Goals as goal

pub loop-index-preserved : goal.loop-index-preserved
loop-index-preserved c =
    let plays = c.new-plays.result in
    let index = c.loop-index.index in
    let play = c.get.result in
    let within = slice_get_within plays index play c.get.ensures in
    let here = sym (get_or_from_slice_get plays index play play c.get.ensures) in
    record {
      written = line_next c.args.game.now.no_limit index plays play c.loop-index.out.items c.push_line.new.out.items _ within here c.loop-index.invariant.written c.in_ok-push_line.ensures.written;
      texts = texts_next index plays play within here c.loop-index.invariant.texts c.in_ok-push_line.ensures.texts;
    }
