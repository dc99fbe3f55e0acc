use Rattle.std.proofs.Common.{sym, ◌∙◌}
use Rattle.card_set.specs.Row.{cards_of}
use Rattle.library_table.proofs.CardLists.{listing_more, listing_none}
use Rattle.library_table.proofs.cards.different_cards.Goals as goal

pub loop-slot-init : goal.loop-slot-init
loop-slot-init c = listing_none c.empty-seen.result (cards_of c.new-row.result) c.new-row.ensures c.empty-seen.ensures

pub loop-slot-preserved : goal.loop-slot-preserved
loop-slot-preserved c =
    listing_more c.loop-slot.seen c.insert.new.self (cards_of c.loop-slot.row) (cards_of c.push.new.self) c.in-Known.card c.loop-slot.invariant (sym c.has.ensures ∙ c.if-has.false) c.insert.ensures.inside c.insert.ensures.others c.push.ensures.entries
