-- A board has no more than seven cards.
use Rattle.std.proofs.Common.{◌≡◌, Bool, true, List, None, count_by, get_or, refl, sym, ap, ◌∙◌, arith}
use Rattle.play_event.specs.Places.{Place}
use Rattle.play_event.specs.Held.{is_held}
use Rattle.card_places.specs.Placed.{placed}
use Rattle.card_places.specs.Plain.{place_of}
use Rattle.card_places.specs.declared.dealt_card.DealtCard.{DealtCard}
use Rattle.card_places.proofs.HeldWithin.{seven_held}
use Rattle.card_places.proofs.RoomLeft.{count_room}
use Rattle.card_places.proofs.card_state.CardState.board_slots.Goals as goal

pub push-requires : goal.push-requires
push-requires c =
    let t = c.args.self.now in
    let rows : List DealtCard = c.as_slice-card-items.result.now in
    let p : Place → Bool = is_held None in
    let passes : p (place_of (get_or rows c.loop-card.card-index c.card-item.result)) ≡ true = ap (λ (r : DealtCard). p (place_of r)) (sym c.card-item.is) ∙ sym c.held_by.ensures ∙ c.if-held_by.true in
    omega (
      arith,
      c.loop-card.invariant.1,
      count_room p rows c.loop-card.card-index c.card-item.result c.loop-card-test.true passes,
      ap (count_by p) c.as_slice-card-items.ensures.placed,
      seven_held t.table.code t.seats t.draws (placed t.places) None t.held refl,
    )
