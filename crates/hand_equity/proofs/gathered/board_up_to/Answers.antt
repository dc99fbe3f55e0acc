use Rattle.std.proofs.Common.{◌+◌, ◌++◌, List, None, length, map, arith, sym, ◌∙◌, ap, length-append}
use Rattle.card_set.specs.declared.card.Slot.{Slot}
use Rattle.play_event.specs.CanonScript.{dealt_slots}
use Rattle.hand_canon.specs.TraceRows.{place_said}
use Rattle.hand_equity.specs.Street.{board_slots}
use Rattle.hand_equity.proofs.BoardSlots.{fewer, slots_more}
use Rattle.hand_equity.proofs.gathered.board_up_to.Goals as goal

pub board_with_street-board-requires : goal.board_with_street-board-requires
board_with_street-board-requires c =
    let placed = map place_said c.args.places.now in
    let index = c.loop-index.index in
    let here = ap (length {A = Slot}) c.loop-index.invariant in
    let more = ap (length {A = Slot}) (slots_more placed index) in
    omega (arith, here, more, length-append (board_slots placed index) (dealt_slots placed None (index + 1)), fewer placed (index + 1) c.args.street (omega arith), c.requires)

pub loop-index-preserved : goal.loop-index-preserved
loop-index-preserved c =
    let placed = map place_said c.args.places.now in
    let index = c.loop-index.index in
    c.board_with_street-board.ensures
    ∙ ap (λ (l : List Slot). l ++ dealt_slots placed None (index + 1)) c.loop-index.invariant
    ∙ sym (slots_more placed index)
