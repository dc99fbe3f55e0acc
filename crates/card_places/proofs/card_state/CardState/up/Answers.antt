-- An up-card belongs to a seat of the hand, and its row has room for it.
use Rattle.std.proofs.Common.{Bool, ◌&&◌, List, sym, ◌∙◌, arith}
use Rattle.std.proofs.lemmas.Bool.{and_from}
use Rattle.card_set.proofs.Tests.{first_of_both}
use Rattle.play_event.specs.Places.{Place, is_held_by, is_up}
use Rattle.play_event.specs.SeatSlots.{ups_of}
use Rattle.card_places.specs.Plain.{place_of}
use Rattle.card_places.specs.declared.dealt_card.DealtCard.{DealtCard}
use Rattle.card_places.proofs.Rooms.{seat_parts}
use Rattle.card_places.proofs.SeatRoom.{holder_in, row_room}
use Rattle.card_places.proofs.card_state.CardState.up.Goals as goal

pub put_up-requires-clause-seat : goal.put_up-requires-clause-seat
put_up-requires-clause-seat c =
    let t = c.args.self.now in
    let at = holder_in t c.as_slice-card-items.result.now c.loop-card.card-index c.card-item.result c.holder.result c.in-Some.seat c.as_slice-card-items.ensures.placed c.loop-card-test.true c.card-item.is c.holder.ensures c.in-Some.is in
    omega (arith, (seat_parts t.seats c.in-Some.seat.number at.1).1, c.loop-card.invariant.0)

pub put_up-requires-clause-room : goal.put_up-requires-clause-room
put_up-requires-clause-room c =
    let t = c.args.self.now in
    let rows : List DealtCard = c.as_slice-card-items.result.now in
    let all = c.as_slice-card-items.ensures.placed in
    let card = c.card-item.result in
    let seat = c.in-Some.seat in
    let at = holder_in t rows c.loop-card.card-index card c.holder.result seat all c.loop-card-test.true c.card-item.is c.holder.ensures c.in-Some.is in
    let has : Place → Bool = is_held_by seat.number in
    let up : Place → Bool = is_up t.table.code in
    row_room t rows c.loop-card.card-index card seat.number (λ place. has place && up place) (ups_of c.loop-card.row seat.number) all c.loop-card-test.true c.card-item.is at.1
    (λ place. first_of_both (has place) (up place)) (and_from (has (place_of card)) (up (place_of card)) at.0 (sym c.is_up.ensures ∙ c.if-is_up.true))
    (c.loop-card.invariant.1 seat.number seat.first (seat_parts t.seats seat.number at.1).1)
