-- In a game without draws, if no seat mucks with known hole cards, each mucked seat holds an
-- unknown card.
use Rattle.std.proofs.Common.{◌≡◌, ℕ, ◌≤◌, Bool, true, false, ◌&&◌, ◌||◌, ◌==◌, not, nat_le, List, [], ◌∷◌, map, filter, Some, inl, inr, ◌⊎◌, refl, sym, ap, ◌∙◌, arith, true≢false}
use Rattle.std.specs.List.{list_any}
use Rattle.std.proofs.lemmas.Bool.{and_from, and_parts, cases_lt, eq-eqb, not-false, or_cases, or_left, or_right}
use Rattle.canon_laws.proofs.DiscardTests.{out_is}
use Rattle.canon_laws.proofs.TraceOrder.{finals_of, is_final}
use Rattle.canon_laws.proofs.TracedSlots.{discarded_same}
use Rattle.canon_laws.proofs.HeldSame.{held_script, slots_held}
use Rattle.play_event.specs.CanonScript.{held_slots, is_dealt_to, is_discard_of}
use Rattle.card_set.specs.Known.{hides_card}
use Rattle.chip_ledger.proofs.Flags.{flag-from_flagged}
use Rattle.chip_ledger.proofs.SeatLists.{none_at}
use Rattle.chip_ledger.specs.LiveRow.{flag_of, flagged}
use Rattle.chip_ledger.specs.Seat.{seats_of}
use Rattle.chip_ledger.specs.declared.live_row.LiveRow.{LiveRow}
use Rattle.card_set.proofs.Any.{list_any-filter, list_any-map}
use Rattle.card_set.proofs.NumbersOfRange.{is_in}
use Rattle.play_event.specs.Games.{street_count}
use Rattle.play_event.specs.Laws.{AreLegal, IsAmong}
use Rattle.play_event.specs.Past.{moves_of}
use Rattle.play_event.specs.Places.{Place, is_held_by, is_same_owner}
use Rattle.play_event.specs.Said.{Said}
use Rattle.play_event.specs.Scripts.{past_of}
use Rattle.play_event.specs.Seats.{all_seats, is_live, live_count}
use Rattle.play_event.specs.Streets.{has_draw}
use Rattle.play_event.specs.Table.{places_of}
use Rattle.play_event.specs.Trace.{TracedPlace, has_unknown_card, is_mucked, is_shown, traced_place, traced_places}
use Rattle.play_event.specs.declared.setup.Rules.{Rules}
use Rattle.play_event.specs.declared.setup.Setup.{Setup}
use Rattle.acpc_format.specs.PlayFacts.{has_unknown_hole_card, is_open_muck}
use Rattle.acpc_format.proofs.WithoutShows.{MucksHide}

-- without draws no card is discarded
none_out : (setup : Setup) (rules : Rules) (events : List Said) (place : Place) → AreLegal setup rules events → ((street : ℕ) → has_draw setup.code street ≡ false) → IsAmong (places_of setup.code (past_of setup events)) place → place.discarded ≡ 0
none_out setup rules events place legal undrawn among = elim (cases_lt 0 place.discarded) [
  | inl some ↦ absurd (true≢false (sym (out_is setup rules events place legal among some).draws ∙ undrawn place.discarded))
  | inr none ↦ omega (arith, none)
]

-- an unknown card that was dealt to a seat, and one that it holds
abbrev is_hidden_deal : ℕ → TracedPlace → Bool
is_hidden_deal seat place = is_dealt_to (Some seat) 1 place && hides_card place.slot

abbrev is_hidden_held : ℕ → TracedPlace → Bool
is_hidden_held seat place = is_discard_of seat 0 place && hides_card place.slot

-- what is dealt is held if nothing is discarded
deal_held : (seat : ℕ) (place : Place) → place.discarded ≡ 0 → is_hidden_deal seat (traced_place place) ≡ true → is_hidden_held seat (traced_place place) ≡ true
deal_held seat place none is =
    let both = and_parts (is_dealt_to (Some seat) 1 (traced_place place)) (hides_card place.slot) is in
    let dealt = and_parts (is_same_owner place.owner (Some seat)) (place.street == 1) both.0 in
    and_from (is_discard_of seat 0 (traced_place place)) (hides_card place.slot)
    (and_from (is_same_owner place.owner (Some seat)) (place.discarded == 0) dealt.0 (eq-eqb place.discarded 0 none)) both.1

deals_held : (seat : ℕ) (finals : List Place) → ((place : Place) → IsAmong finals place → place.discarded ≡ 0) → list_any (is_hidden_deal seat) (map traced_place finals) ≡ true → list_any (is_hidden_held seat) (map traced_place finals) ≡ true
deals_held seat [] none some = some
deals_held seat (place ∷ finals) none some = by_first (or_cases (is_hidden_deal seat (traced_place place)) (list_any (is_hidden_deal seat) (map traced_place finals)) some) (deals_held seat finals (λ other among. none other (inr among)))
  where
    by_first : (is_hidden_deal seat (traced_place place) ≡ true) ⊎ (list_any (is_hidden_deal seat) (map traced_place finals) ≡ true)
        → (list_any (is_hidden_deal seat) (map traced_place finals) ≡ true → list_any (is_hidden_held seat) (map traced_place finals) ≡ true)
        → (is_hidden_held seat (traced_place place) || list_any (is_hidden_held seat) (map traced_place finals)) ≡ true
    by_first (inl here) later = or_left (is_hidden_held seat (traced_place place)) (list_any (is_hidden_held seat) (map traced_place finals)) (deal_held seat place (none place (inl refl)) here)
    by_first (inr there) later = or_right (is_hidden_held seat (traced_place place)) (list_any (is_hidden_held seat) (map traced_place finals)) (later there)

-- unknown slots of places that pass a test
unknown_of : (test : TracedPlace → Bool) (placed : List TracedPlace) → list_any hides_card (map (λ (place : TracedPlace). place.slot) (filter test placed)) ≡ list_any (λ (place : TracedPlace). test place && hides_card place.slot) placed
unknown_of test placed = list_any-map hides_card (λ (place : TracedPlace). place.slot) (filter test placed) ∙ list_any-filter (λ (place : TracedPlace). hides_card place.slot) test placed

-- a live seat with an unknown hole card holds it
pub hidden_held : (setup : Setup) (rules : Rules) (events : List Said) (seat : ℕ) → AreLegal setup rules events → ((street : ℕ) → has_draw setup.code street ≡ false) → 1 ≤ seat → seat ≤ setup.stacks.seats
    → is_live (moves_of (past_of setup events)) seat ≡ true → has_unknown_hole_card (traced_places setup (past_of setup events)) seat ≡ true → has_unknown_card setup (past_of setup events) seat ≡ true
hidden_held setup rules events seat legal undrawn low high live hides =
    let past = past_of setup events in
    let placed = places_of setup.code past in
    let finals = finals_of setup placed (street_count setup.code) in
    let held : list_any (is_hidden_held seat) (map traced_place finals) ≡ true =
    deals_held seat finals (λ place among. none_out setup rules events place legal undrawn (is_final setup placed (street_count setup.code) place among).among)
    (sym (unknown_of (is_dealt_to (Some seat) 1) (map traced_place finals)) ∙ hides) in
    let same : held_slots (map traced_place finals) seat ≡ slots_held seat placed = discarded_same finals seat 0 ∙ held_script setup rules events seat legal low high live in
    sym (list_any-map hides_card (λ (place : Place). place.slot) (filter (is_held_by seat) placed) ∙ list_any-filter (λ (place : Place). hides_card place.slot) (is_held_by seat) placed)
    ∙ sym (ap (list_any hides_card) same)
    ∙ unknown_of (is_discard_of seat 0) (map traced_place finals)
    ∙ held

-- so each mucked seat holds an unknown card
pub mucks_hide : (setup : Setup) (rules : Rules) (events : List Said) (row : LiveRow) → AreLegal setup rules events → ((street : ℕ) → has_draw setup.code street ≡ false)
    → flagged row ≡ filter (is_mucked setup (past_of setup events)) (all_seats setup)
    → list_any (is_open_muck (traced_places setup (past_of setup events)) row) (seats_of setup.stacks.seats) ≡ false → MucksHide setup (past_of setup events)
mucks_hide setup rules events row legal undrawn same none seat low high mucked =
    let past = past_of setup events in
    let placed = traced_places setup past in
    let flag : flag_of row seat ≡ true = flag-from_flagged row seat (ap (list_any (λ other. other == seat)) same ∙ is_in (is_mucked setup past) 1 setup.stacks.seats seat low (omega (arith, high)) ∙ mucked) in
    let shut : not (has_unknown_hole_card placed seat) ≡ false = sym (ap (λ b. b && not (has_unknown_hole_card placed seat)) flag) ∙ none_at (is_open_muck placed row) setup.stacks.seats seat low high none in
    let live = (and_parts (nat_le 2 (live_count setup (moves_of past))) (is_live (moves_of past) seat) (and_parts (nat_le 2 (live_count setup (moves_of past)) && is_live (moves_of past) seat) (not (is_shown setup past seat)) mucked).0).1 in
    hidden_held setup rules events seat legal undrawn low high live (not-false (has_unknown_hole_card placed seat) shut)
