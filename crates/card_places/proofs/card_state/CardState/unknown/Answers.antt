-- A card that is held belongs to a seat of the hand.
use Rattle.std.proofs.Common.{arith}
use Rattle.card_places.proofs.Rooms.{seat_parts}
use Rattle.card_places.proofs.SeatRoom.{holder_in}
use Rattle.card_places.proofs.card_state.CardState.unknown.Goals as goal

pub set-requires : goal.set-requires
set-requires c =
    let t = c.args.self.now in
    let at = holder_in t c.as_slice-card-items.result.now c.loop-card.card-index c.card-item.result c.holder.result c.in-Some.seat c.as_slice-card-items.ensures.placed c.loop-card-test.true c.card-item.is c.holder.ensures c.in-Some.is in
    omega (arith, (seat_parts t.seats c.in-Some.seat.number at.1).1, c.loop-card.invariant.0)
