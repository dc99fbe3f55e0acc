-- There is room for what the owner is owed.
use Rattle.std.proofs.Common.{ℕ, List, length, count_by, sym, subst, arith}
use Rattle.play_event.specs.Places.{Place, is_in_group}
use Rattle.card_places.specs.Placed.{placed}
use Rattle.card_places.specs.Room.{IsWithin, AreHeldWithin}
use Rattle.card_places.proofs.Fits.{owed_room}
use Rattle.card_places.proofs.HeldWithin.{at_most_ten, held_deal}
use Rattle.card_places.proofs.Putting.{placed_length}
use Rattle.card_places.proofs.Rooms.{room, within_deal}
use Rattle.card_places.proofs.card_state.CardState.deal.Goals as goal
use Rattle.chip_ledger.specs.SeatsSaid.{seat_said}

pub put-requires : goal.put-requires
put-requires c =
    let t = c.args.self.now in
    let fits = owed_room t.table.code t.seats t.draws (placed t.places) (seat_said c.args.owner) c.args.on (length c.args.cards.now) (at_most_ten t.table.code t.seats t.few) t.named c.requires in
    omega (arith, placed_length t.places, room t.table.code t.seats (placed t.places) (seat_said c.args.owner) c.args.on c.args.cards.now t.few t.within fits)

pub invariant_of-self : goal.invariant_of-self
invariant_of-self c =
    let t = c.args.self.now in
    let before : List Place = placed t.places in
    let owner = seat_said c.args.owner in
    let cards = c.args.cards.now in
    let group : ℕ = count_by (is_in_group owner c.args.on) before in
    let fits = owed_room t.table.code t.seats t.draws before owner c.args.on (length cards) (at_most_ten t.table.code t.seats t.few) t.named c.requires in
    record {
      shown_seats = t.shown_seats;
      mucked_seats = t.mucked_seats;
      few = t.few;
      within = subst (λ (ps : List Place). IsWithin t.table.code t.seats ps) (sym c.put.ensures) (within_deal t.table.code t.seats before owner c.args.on c.is_past_deck-past_deck.result group (length before) cards t.within fits);
      named = t.named;
      held = subst (λ (ps : List Place). AreHeldWithin t.table.code t.seats t.draws ps) (sym c.put.ensures) (held_deal t.table.code t.seats t.draws before owner c.args.on c.is_past_deck-past_deck.result group (length before) cards t.held c.requires);
    }
