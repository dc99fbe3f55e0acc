use Rattle.std.proofs.Common.{◌+◌, arith}
use Rattle.card_set.specs.Row.{cards_of}
use Rattle.hand_counts.proofs.DealtLaws.{dealt_push, dealt_later}
use Rattle.hand_counts.proofs.dealing.hand_of.Goals as goal

pub loop-slot-preserved : goal.loop-slot-preserved
loop-slot-preserved c =
    let here = c.index_in_deck.ensures.index in
    let again = c.index_in_deck-from.ensures.index in
    let within = c.index_in_deck-from.ensures.within in
    let from = c.if-index_in_deck-from.false in
    record {
      dealt = dealt_push c.loop-slot.from (c.index_in_deck-from.result + 1) (cards_of c.loop-slot.hand) (cards_of c.push.new.self) c.in-Known.card c.loop-slot.invariant.dealt (omega arith) (omega arith) c.push.ensures.entries;
      within = omega arith;
    }

pub returns : goal.returns
returns c = dealt_later c.loop-slot.from 52 (cards_of c.loop-slot.hand) c.loop-slot.invariant.within c.loop-slot.invariant.dealt
