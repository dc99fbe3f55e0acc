-- After a fold nobody has more cards.
use Rattle.card_places.specs.Placed.{placed}
use Rattle.card_places.proofs.StateKept.{bounded_fold}
use Rattle.card_places.proofs.card_state.CardState.fold.Goals as goal

pub invariant_of-self : goal.invariant_of-self
invariant_of-self c =
    let t = c.args.self.now in
    let bounded = bounded_fold t.table.code t.seats t.draws (placed t.places) _ c.args.seat.number c.take_away.ensures (record { within = t.within; named = t.named; held = t.held }) in
    record {
      shown_seats = t.shown_seats;
      mucked_seats = t.mucked_seats;
      few = t.few;
      within = bounded.within;
      named = bounded.named;
      held = bounded.held;
    }
