-- What holds if there is no reason against a discard.
use Rattle.std.proofs.Common.{◌≡◌, ℕ, ◌+◌, ◌≤◌, Bool, true, false, not, nat_le, filter, if◌then◌else◌, Some, None, List, length, count_by, refl, arith}
use Rattle.std.proofs.lemmas.Bool.{and_from, and_parts, le-leb, not-true}
use Rattle.card_set.specs.declared.card.Slot.{Slot}
use Rattle.chip_ledger.specs.declared.live_row.LiveRow.{LiveRow}
use Rattle.chip_ledger.specs.LiveRow.{flag_of}
use Rattle.play_event.specs.declared.reason.Illegal.TheVariants as reasons
use Rattle.card_set.specs.Known.{known_among}
use Rattle.play_event.specs.Places.{is_held_by}
use Rattle.play_event.specs.NameMatching.{after_discard, blanks_in}
use Rattle.play_event.specs.CardReasons.{has_no_place}
use Rattle.card_places.specs.declared.card_state.CardState.{CardState}
use Rattle.card_places.specs.Drawn.{has_drawn_at}
use Rattle.card_places.specs.Placed.{placed}
use Rattle.card_places.specs.Refusals.{has_to_draw, next_to_draw_in, is_next_in, discard_reason_on}
use Rattle.card_places.specs.Room.{is_seat_of}
use Rattle.card_places.proofs.HeldCards.{discard_takes}
use Rattle.card_set.proofs.NumbersOfRange.{found_in_range}
use Rattle.card_set.proofs.Options.{found_number}

chain_parts : (next over taken lacking : Bool) → (if not next then Some reasons.WrongSeat else if over then Some reasons.WrongCount else if taken then Some reasons.CardTaken else if lacking then Some reasons.NotHeld else None) ≡ None → (next ≡ true) × (lacking ≡ false)
chain_parts false over taken lacking is = absurd cc
chain_parts true true taken lacking is = absurd cc
chain_parts true false true lacking is = absurd cc
chain_parts true false false true is = absurd cc
chain_parts true false false false is = (refl, refl)

-- the seat that discards is a seat of the hand and has not drawn, and its names find their places
pub record IsDrawer (t : CardState) (on seat : ℕ) (cards : List Slot) : Type 0 where
  pub first : 1 ≤ seat
  pub last : seat ≤ t.seats
  pub undrawn : has_drawn_at t.draws on seat ≡ false
  pub found : has_no_place (filter (is_held_by seat) (placed t.places)) (known_among cards) (blanks_in cards) ≡ false

pub drawer_is : (t : CardState) (live : LiveRow) (on seat : ℕ) (cards : List Slot) → discard_reason_on t live on seat cards ≡ None → IsDrawer t on seat cards
drawer_is t live on seat cards is =
    let parts = chain_parts (is_next_in t live on seat) _ _ (has_no_place (filter (is_held_by seat) (placed t.places)) (known_among cards) (blanks_in cards)) is in
    let found = found_in_range (has_to_draw t live on) 1 t.seats seat (found_number (next_to_draw_in t live on) seat parts.0) in
    record {
      first = found.1.0;
      last = omega (arith, found.1.1);
      undrawn = not-true (has_drawn_at t.draws on seat) (and_parts (flag_of live seat) (not (has_drawn_at t.draws on seat)) found.0).1;
      found = parts.1;
    }

pub legal_takes : (t : CardState) (live : LiveRow) (on seat : ℕ) (cards : List Slot) → discard_reason_on t live on seat cards ≡ None → count_by (is_held_by seat) (after_discard on seat cards (placed t.places)) + length cards ≤ count_by (is_held_by seat) (placed t.places)
legal_takes t live on seat cards legal = discard_takes on seat cards (placed t.places) (drawer_is t live on seat cards legal).found

pub legal_in_hand : (t : CardState) (live : LiveRow) (on seat : ℕ) (cards : List Slot) → discard_reason_on t live on seat cards ≡ None → is_seat_of t.seats seat ≡ true
legal_in_hand t live on seat cards legal =
    let drawer = drawer_is t live on seat cards legal in
    and_from (nat_le 1 seat) (nat_le seat t.seats) (le-leb 1 seat drawer.first) (le-leb seat t.seats drawer.last)
