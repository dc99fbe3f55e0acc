-- One more seat.
use Rattle.acpc_format.specs.Values.{value_text}
use Rattle.acpc_format.proofs.SeatTexts.{text_more}
use Rattle.acpc_format.proofs.values.push_values.Goals as goal

pub loop-index-preserved : goal.loop-index-preserved
loop-index-preserved c =
    text_more (value_text c.args.stacks.now c.args.finish.now) c.loop-index.index c.args.out.now.items c.loop-index.out.items c.push_bar.new.out.items c.push_value.new.out.items
    c.loop-index.invariant c.in_ok-push_bar.ensures c.in_ok-push_value.ensures
