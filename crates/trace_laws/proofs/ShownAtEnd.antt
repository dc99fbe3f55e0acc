-- At the end of a hand a shown seat is live among several, with known cards, and the board of the trace is that of the table.
use Rattle.std.proofs.Common.{◌≡◌, ℕ, true, false, ◌&&◌, not, nat_le, None, List, [], ◌∷◌, ◌++◌, map, refl, sym, ap, ◌∙◌, arith}
use Rattle.std.specs.List.{flat_map, range_with_len}
use Rattle.std.proofs.lemmas.Bool.{and_parts, not-true}
use Rattle.std.proofs.lemmas.List.{map-append}
use Rattle.canon_laws.proofs.TracedSlots.{dealt_same}
use Rattle.canon_laws.proofs.TraceOrder.{finals_group, finals_of, the_board}
use Rattle.play_event.specs.CanonScript as canon
use Rattle.card_set.proofs.Numbers.{many_not_few}
use Rattle.card_set.proofs.NumbersOfRange.{flat_same}
use Rattle.play_event.specs.declared.setup.Rules.{Rules}
use Rattle.play_event.specs.declared.setup.Setup.{Setup}
use Rattle.play_event.specs.Games.{street_count}
use Rattle.play_event.specs.Held.{held_slots}
use Rattle.play_event.specs.Laws.{AreLegal}
use Rattle.play_event.specs.Past.{Past, moves_of}
use Rattle.play_event.specs.Places.{Place, group_of}
use Rattle.play_event.specs.Said.{Said}
use Rattle.play_event.specs.Scripts.{past_of}
use Rattle.play_event.specs.Seats.{is_live, live_count}
use Rattle.play_event.specs.Showing.{has_mucked}
use Rattle.play_event.specs.Table.{places_of}
use Rattle.play_event.specs.Trace.{has_unknown_card, is_contested, is_shown, streets_of, traced_places}
use Rattle.play_laws.proofs.LegalPlaces.{legal_past}
use Rattle.play_laws.proofs.UnknownOrder.{legal_sorted}
use Rattle.play_laws.proofs.StreetSplits.{by_streets}
use Rattle.play_laws.proofs.WholeBoards.{board_is}

-- what a shown seat is
pub record IsShownSeat (setup : Setup) (past : Past) (seat : ℕ) : Type 0 where
  pub several : nat_le (live_count setup (moves_of past)) 1 ≡ false
  pub live : is_live (moves_of past) seat ≡ true
  pub known : has_unknown_card setup past seat ≡ false

pub shown_seat : (setup : Setup) (past : Past) (seat : ℕ) → is_shown setup past seat ≡ true → IsShownSeat setup past seat
shown_seat setup past seat is =
    let last = and_parts (is_contested setup past && is_live (moves_of past) seat && not (has_mucked past seat)) (not (has_unknown_card setup past seat)) is in
    let middle = and_parts (is_contested setup past && is_live (moves_of past) seat) (not (has_mucked past seat)) last.0 in
    let first = and_parts (is_contested setup past) (is_live (moves_of past) seat) middle.0 in
    record { several = many_not_few (live_count setup (moves_of past)) first.0; live = first.1; known = not-true (has_unknown_card setup past seat) last.1 }

-- the cards of each street one after another
map_flat : (f : ℕ → List Place) (keys : List ℕ) → flat_map (λ key. map (λ (place : Place). place.slot) (f key)) keys ≡ map (λ (place : Place). place.slot) (flat_map f keys)
map_flat f [] = refl
map_flat f (key ∷ keys) =
    ap (λ l. map (λ (place : Place). place.slot) (f key) ++ l) (map_flat f keys)
    ∙ sym (map-append (λ (place : Place). place.slot) (f key) (flat_map f keys))

-- the board that a trace keeps, street by street, is that of the table
pub traced_board : (setup : Setup) (rules : Rules) (events : List Said) → AreLegal setup rules events → flat_map (canon.dealt_slots (traced_places setup (past_of setup events)) None) (streets_of setup) ≡ held_slots None (places_of setup.code (past_of setup events))
traced_board setup rules events legal =
    let past : Past = past_of setup events in
    let placed : List Place = places_of setup.code past in
    let count : ℕ = street_count setup.code in
    flat_same (canon.dealt_slots (traced_places setup past) None) (λ street. map (λ (place : Place). place.slot) (group_of placed street None)) 1 count (λ street low high.
    dealt_same (finals_of setup placed count) None street
    ∙ ap (map (λ (place : Place). place.slot)) (finals_group setup placed None street count the_board low (omega (arith, high))))
    ∙ map_flat (λ street. group_of placed street None) (range_with_len 1 count)
    ∙ ap (map (λ (place : Place). place.slot)) (by_streets None count placed (legal_sorted setup rules events legal) (legal_past setup rules events legal).places.since ∙ sym (board_is setup rules events legal))
