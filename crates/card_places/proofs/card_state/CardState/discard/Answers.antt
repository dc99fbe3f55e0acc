-- A legal discard takes as many cards as it names, and the seat may be dealt as many.
use Rattle.std.proofs.Common.{◌≡◌, ◌+◌, ◌≤◌, ◌∙◌, List, length, count_by, sym, subst, arith}
use Rattle.std.proofs.lemmas.List.{length-take}
use Rattle.card_set.specs.Row.{slots_of}
use Rattle.play_event.specs.Places.{Place, is_held_by}
use Rattle.card_places.specs.Placed.{placed}
use Rattle.card_places.proofs.HeldWithin.{at_most_ten}
use Rattle.card_places.proofs.Legal.{legal_takes, legal_in_hand}
use Rattle.card_places.proofs.StateKept.{bounded_discard, IsDrawnBy}
use Rattle.card_places.proofs.card_state.CardState.discard.Goals as goal

pub invariant_of-self-in-None : goal.invariant_of-self-in-None
invariant_of-self-in-None c =
    let t = c.args.self.now in
    let row = c.args.cards.now in
    let seat = c.args.seat.number in
    let legal = sym c.illegal_discard_on.ensures ∙ c.in-None.is in
    let long : length (slots_of row) ≡ row.len = omega (arith, length-take row.len row.slots, row.fits, row.entries) in
    let drawn : IsDrawnBy t.draws c.set.new.self c.args.on seat (length (slots_of row)) = record { named = c.set.ensures.named ∙ sym long; others = c.set.ensures.others_named } in
    let is = c.apply_names.ensures ∙ c.discard_search-search.ensures.after in
    let takes = subst (λ (ps : List Place). count_by (is_held_by seat) ps + length (slots_of row) ≤ count_by (is_held_by seat) (placed t.places)) (sym is) (legal_takes t c.args.live.now c.args.on seat (slots_of row) legal) in
    let bounded = bounded_discard t.table.code t.seats t.draws c.set.new.self (placed t.places) _ c.args.on seat (slots_of row) (at_most_ten t.table.code t.seats t.few) (legal_in_hand t c.args.live.now c.args.on seat (slots_of row) legal) drawn is takes (record { within = t.within; named = t.named; held = t.held }) in
    record {
      shown_seats = t.shown_seats;
      mucked_seats = t.mucked_seats;
      few = t.few;
      within = bounded.within;
      named = bounded.named;
      held = bounded.held;
    }
