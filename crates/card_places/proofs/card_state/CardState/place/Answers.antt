-- An index below the count is never past all cards.
use Rattle.std.proofs.Common.{ℕ, List, length, ap, arith}
use Rattle.play_event.specs.Places.{Place}
use Rattle.card_places.specs.Ordered.{on_streets}
use Rattle.card_places.specs.Placed.{placed}
use Rattle.card_places.proofs.InOrder.{all_ordered}
use Rattle.card_places.proofs.Putting.{placed_length}
use Rattle.card_places.proofs.card_state.CardState.place.Goals as goal

pub returns-in-Err : goal.returns-in-Err
returns-in-Err c =
    let t = c.args.self.now in
    let ps : List Place = placed t.places in
    absurd (omega (arith, c.in-Err.ensures.past, ap (λ (n : ℕ). length (on_streets t.seats ps 1 n)) c.streets.ensures.streets, all_ordered t.table.code t.seats ps t.within, placed_length t.places, c.requires))
