-- One more seat.
use Rattle.std.proofs.Common.{map}
use Rattle.hand_canon.specs.TraceRows.{place_said}
use Rattle.acpc_format.specs.Cards.{hole_text}
use Rattle.acpc_format.proofs.SeatTexts.{text_more}
use Rattle.acpc_format.proofs.cards.push_cards.Goals as goal

pub loop-index-preserved : goal.loop-index-preserved
loop-index-preserved c =
    text_more (hole_text (map place_said c.args.places.now)) c.loop-index.index c.args.out.now.items c.loop-index.out.items c.push_bar.new.out.items c.push_hole.new.out.items
    c.loop-index.invariant c.in_ok-push_bar.ensures c.in_ok-push_hole.ensures
