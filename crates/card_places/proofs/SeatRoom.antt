-- A seat that has a card is one of the hand, and its row has room for the card.
use Rattle.std.proofs.Common.{◌≡◌, ℕ, ◌+◌, ◌<◌, ◌≤◌, Bool, true, false, ◌&&◌, ◌==◌, if◌then◌else◌, is_none, List, Option, Some, map, filter, take, length, count_by, get_or, refl, sym, ap, subst, ◌∙◌, arith}
use Rattle.std.proofs.lemmas.Bool.{and_from, eq-eqb}
use Rattle.std.proofs.lemmas.List.{length-map}
use Rattle.std.proofs.lemmas.List.Sums.{length-filter}
use Rattle.card_set.proofs.Counting.{counts_fewer}
use Rattle.card_set.proofs.Tests.{first_of_both}
use Rattle.card_set.specs.declared.card.Slot.{Slot}
use Rattle.chip_ledger.specs.declared.numbers.Seat.{Seat}
use Rattle.play_event.proofs.OwnerLaws.{is_same_owner-self}
use Rattle.play_event.specs.declared.code.Code.{Code}
use Rattle.play_event.specs.Places.{Place, is_same_owner, is_in_group, is_held_by}
use Rattle.card_places.specs.declared.dealt_card.DealtCard.{DealtCard}
use Rattle.card_places.specs.declared.card_state.CardState.{CardState}
use Rattle.card_places.specs.Placed.{placed}
use Rattle.card_places.specs.Plain.{place_of}
use Rattle.chip_ledger.specs.SeatsSaid.{seat_said}
use Rattle.card_places.specs.Room.{is_seat_of, is_street, hole_most, IsWithin}
use Rattle.card_places.proofs.HeldWithin.{seven_held}
use Rattle.card_places.proofs.RoomLeft.{count_room}

some_only : (a b : Bool) (most k count : ℕ) → k + 1 ≤ count → count ≤ (if a && b then most else 0) → a ≡ true
some_only true b most k count some few = refl
some_only false b most k count some few = absurd (omega (arith, some, few))

-- a seat that has one of the cards is a seat of the hand
pub seat_in : (code : Code) (seats : ℕ) (rows : List DealtCard) (i : ℕ) (d : DealtCard) (seat : ℕ) → IsWithin code seats (map place_of rows) → i < length rows → is_held_by seat (place_of (get_or rows i d)) ≡ true → is_seat_of seats seat ≡ true
seat_in code seats rows i d seat within before held =
    let place : Place = place_of (get_or rows i d) in
    let own : Bool = is_same_owner place.owner (Some seat) in
    let grouped : is_in_group (Some seat) place.street place ≡ true = and_from own (place.street == place.street) (first_of_both own (is_none place.gone_after) held) (eq-eqb place.street place.street refl) in
    some_only (is_seat_of seats seat) (is_street code place.street) (hole_most code place.street) (count_by (is_in_group (Some seat) place.street) (map place_of (take i rows))) (count_by (is_in_group (Some seat) place.street) (map place_of rows))
    (count_room (is_in_group (Some seat) place.street) rows i d before grouped) (within (Some seat) place.street)

-- the holder of a card has it, and is a seat of the hand
pub holder_in : (t : CardState) (rows : List DealtCard) (i : ℕ) (card : DealtCard) (holder : Option Seat) (seat : Seat) → map place_of rows ≡ placed t.places → i < length rows → card ≡ get_or rows i card → ((number : ℕ) → is_held_by number (place_of card) ≡ is_same_owner (seat_said holder) (Some number)) → holder ≡ Some seat → (is_held_by seat.number (place_of card) ≡ true) × (is_seat_of t.seats seat.number ≡ true)
holder_in t rows i card holder seat all before here has is =
    let within : IsWithin t.table.code t.seats (map place_of rows) = subst (λ (ps : List Place). IsWithin t.table.code t.seats ps) (sym all) t.within in
    let held : is_held_by seat.number (place_of card) ≡ true = has seat.number ∙ ap (λ (o : Option Seat). is_same_owner (seat_said o) (Some seat.number)) is ∙ is_same_owner-self (Some seat.number) in
    (held, seat_in t.table.code t.seats rows i card seat.number within before (ap (λ (r : DealtCard). is_held_by seat.number (place_of r)) (sym here) ∙ held))

-- a row of those cards of a seat that pass, and come before this one, has room for it
pub row_room : (t : CardState) (rows : List DealtCard) (i : ℕ) (card : DealtCard) (seat : ℕ) (p : Place → Bool) (slots : List Slot) → map place_of rows ≡ placed t.places → i < length rows → card ≡ get_or rows i card → is_seat_of t.seats seat ≡ true → ((place : Place) → p place ≡ true → is_held_by seat place ≡ true) → p (place_of card) ≡ true → slots ≡ map (λ place. place.slot) (filter p (map place_of (take i rows))) → length slots < 7
row_room t rows i card seat p slots all before here inside only passes is =
    let seen : List Place = map place_of (take i rows) in
    omega (
      arith,
      ap (λ (l : List Slot). length l) is,
      length-map (filter p seen) (λ (place : Place). place.slot),
      length-filter p seen,
      count_room p rows i card before (ap (λ (r : DealtCard). p (place_of r)) (sym here) ∙ passes),
      ap (count_by p) all,
      counts_fewer p (is_held_by seat) only (placed t.places),
      seven_held t.table.code t.seats t.draws (placed t.places) (Some seat) t.held inside,
    )
