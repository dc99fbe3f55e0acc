-- After a show nobody has more cards.
use Rattle.std.proofs.Common.{◌∙◌}
use Rattle.card_set.specs.Row.{cards_of}
use Rattle.card_places.specs.Placed.{placed}
use Rattle.card_places.proofs.StateKept.{bounded_show}
use Rattle.card_places.proofs.card_state.CardState.show.Goals as goal

pub invariant_of-self-in-None : goal.invariant_of-self-in-None
invariant_of-self-in-None c =
    let t = c.args.self.now in
    let bounded = bounded_show t.table.code t.seats t.draws (placed t.places) _ c.args.seat.number (cards_of c.args.cards.now) (c.apply_names.ensures ∙ c.show_search-search.ensures.after) (record { within = t.within; named = t.named; held = t.held }) in
    record {
      shown_seats = c.set.ensures.seats ∙ t.shown_seats;
      mucked_seats = t.mucked_seats;
      few = t.few;
      within = bounded.within;
      named = bounded.named;
      held = bounded.held;
    }
