-- A card that is held belongs to a seat of the hand, and its row has room for it.
use Rattle.std.proofs.Common.{List, arith}
use Rattle.play_event.specs.Places.{is_held_by}
use Rattle.play_event.specs.SeatSlots.{slots_of_hand}
use Rattle.card_places.specs.declared.dealt_card.DealtCard.{DealtCard}
use Rattle.card_places.proofs.Rooms.{seat_parts}
use Rattle.card_places.proofs.SeatRoom.{holder_in, row_room}
use Rattle.card_places.proofs.card_state.CardState.hands.Goals as goal

pub put_held-requires-clause-seat : goal.put_held-requires-clause-seat
put_held-requires-clause-seat c =
    let t = c.args.self.now in
    let at = holder_in t c.as_slice-card-items.result.now c.loop-card.card-index c.card-item.result c.holder.result c.in-Some.seat c.as_slice-card-items.ensures.placed c.loop-card-test.true c.card-item.is c.holder.ensures c.in-Some.is in
    omega (arith, (seat_parts t.seats c.in-Some.seat.number at.1).1, c.loop-card.invariant.0)

pub put_held-requires-clause-room : goal.put_held-requires-clause-room
put_held-requires-clause-room c =
    let t = c.args.self.now in
    let rows : List DealtCard = c.as_slice-card-items.result.now in
    let all = c.as_slice-card-items.ensures.placed in
    let seat = c.in-Some.seat in
    let at = holder_in t rows c.loop-card.card-index c.card-item.result c.holder.result seat all c.loop-card-test.true c.card-item.is c.holder.ensures c.in-Some.is in
    row_room t rows c.loop-card.card-index c.card-item.result seat.number (is_held_by seat.number) (slots_of_hand c.loop-card.row seat.number) all c.loop-card-test.true c.card-item.is at.1 (λ place has. has) at.0
    (c.loop-card.invariant.1 seat.number seat.first (seat_parts t.seats seat.number at.1).1)
