-- When a contested hand ends, each live seat has a whole hand.
use Rattle.std.proofs.Common.{◌≡◌, ℕ, zero, suc, ◌+◌, ◌-◌, ◌≤◌, Bool, true, false, ◌&&◌, ◌||◌, not, nat_lt, Option, Some, None, is_some, is_none, List, filter, length, slice_get, refl, sym, ap, ◌∙◌, arith}
use Rattle.std.specs.Option.{option_map_or}
use Rattle.std.specs.List.{list_any}
use Rattle.std.proofs.lemmas.Bool.{and_left, and_right, le-ltb, lt-ltb, ltb-false, not_from_true, or_parts}
use Rattle.std.proofs.lemmas.List.{length-map}
use Rattle.play_event.specs.Held.{held_slots}
use Rattle.play_laws.proofs.DrawTables.{draw_tables}
use Rattle.play_event.proofs.OwnerLaws.{is_same_owner-true}
use Rattle.play_laws.proofs.HeldFew.{balance, first_holes, is_held_at, no_holes, none_pass, one_more}
use Rattle.play_event.specs.declared.code.Code.{Code}
use Rattle.play_event.specs.declared.code.Code.TheVariants as games
use Rattle.play_event.specs.declared.setup.Rules.{Rules}
use Rattle.play_event.specs.declared.setup.Setup.{Setup}
use Rattle.play_event.specs.Dealing.{cards_discarded, hole_cards_dealt, is_draw_due, next_to_draw, replacements_owed}
use Rattle.play_event.specs.Games.{game_of, hole_cards_on, street_count}
use Rattle.play_event.specs.declared.street.Street.{Street}
use Rattle.play_event.specs.Past.{Move, Past, moves_of}
use Rattle.play_event.specs.Places.{Place, is_held_by, is_in_group, is_same_owner}
use Rattle.play_event.specs.Said.{Said}
use Rattle.play_event.specs.Scripts.{past_of}
use Rattle.play_event.specs.Seats.{all_seats, is_live}
use Rattle.play_event.specs.Streets.{has_draw}
use Rattle.play_event.specs.Table.{places_of}
use Rattle.play_laws.specs.LegalPlaces.{has_owner_folded}
use Rattle.play_laws.proofs.DiscardCounts.{is_out_of, out_counts}
use Rattle.play_laws.proofs.DoneKept.{live_dealt}
use Rattle.play_laws.proofs.DonePasts.{legal_done}
use Rattle.play_laws.proofs.FittingMoves.{same_filter}
use Rattle.play_laws.proofs.LegalPlaces.{group_count, legal_past}
use Rattle.chip_ledger.proofs.SeatLists.{none_at}
use Rattle.play_laws.specs.ContestedEnd.{EndContested}
use Rattle.play_laws.proofs.AllDone.{all_dealt}

-- those of all streets are a hand
whole_hand : (code : Code) → first_holes (game_of code).streets (street_count code) ≡ (game_of code).hole
unfolding first_holes
whole_hand games.FT = refl
whole_hand games.NT = refl
whole_hand games.NS = refl
whole_hand games.PO = refl
whole_hand games.FO8 = refl
whole_hand games.F7S = refl
whole_hand games.F7S8 = refl
whole_hand games.FR = refl
whole_hand games.N2L1D = refl
whole_hand games.F2L3D = refl
whole_hand games.FB = refl

-- a draw replaces what was discarded in it
replaced : (setup : Setup) (past : Past) (street seat : ℕ) → has_draw setup.code street ≡ true → is_draw_due setup past street ≡ false → 1 ≤ seat → seat ≤ setup.stacks.seats → cards_discarded past street seat ≤ hole_cards_dealt past street seat
replaced setup past street seat draws is least most =
    let inside : (is_some (next_to_draw setup past street) || list_any (λ seat. nat_lt 0 (replacements_owed past street seat)) (all_seats setup)) ≡ false = sym (ap (λ b. b && (is_some (next_to_draw setup past street) || list_any (λ seat. nat_lt 0 (replacements_owed past street seat)) (all_seats setup))) draws) ∙ is in
    let none = (or_parts (is_some (next_to_draw setup past street)) (list_any (λ seat. nat_lt 0 (replacements_owed past street seat)) (all_seats setup)) inside).1 in
    omega (arith, ltb-false 0 (replacements_owed past street seat) (none_at (λ seat. nat_lt 0 (replacements_owed past street seat)) setup.stacks.seats seat least most none))

-- a live seat of the hand
pub record IsLiveSeat (setup : Setup) (past : Past) (seat : ℕ) : Type 0 where
  pub least : 1 ≤ seat
  pub most : seat ≤ setup.stacks.seats
  pub live : is_live (moves_of past) seat ≡ true

-- what a live seat holds when a street begins are the hole cards of the streets before it
held_so_far : (setup : Setup) (rules : Rules) (events : List Said) (seat count : ℕ) → EndContested setup rules events → IsLiveSeat setup (past_of setup events) seat → count ≤ street_count setup.code
    → length (filter (is_held_at seat (count + 1)) (places_of setup.code (past_of setup events))) ≡ first_holes (game_of setup.code).streets count
held_so_far setup rules events seat zero ends in_hand few =
    let law = (legal_past setup rules events ends.legal).places in
    none_pass (is_held_at seat (0 + 1)) (places_of setup.code (past_of setup events)) (λ place among.
    and_right (is_same_owner place.owner (Some seat)) (nat_lt place.street (0 + 1) && not (nat_lt 0 place.discarded && nat_lt place.discarded (0 + 1)))
    (and_left (nat_lt place.street (0 + 1)) (not (nat_lt 0 place.discarded && nat_lt place.discarded (0 + 1))) (le-ltb place.street (0 + 1) (omega (arith, law.since place among)))))
    ∙ sym (no_holes (game_of setup.code).streets)
held_so_far setup rules events seat (suc count) ends in_hand few =
    let past : Past = past_of setup events in
    let placed : List Place = places_of setup.code past in
    let law = legal_past setup rules events ends.legal in
    let here : count + 1 ≤ street_count setup.code = omega (arith, few) in
    let before = held_so_far setup rules events seat count ends in_hand (omega (arith, few)) in
    let all = balance seat (count + 1) placed (omega arith) law.places.out_after in
    let dealt = group_count setup.code past (count + 1) seat in
    let out = out_counts setup rules events ends.legal (count + 1) seat (omega arith) in
    let next : suc count ≡ count + 1 = omega arith in
    let index : (count + 1) - 1 ≡ count = omega arith in
    let same = ap (λ k. length (filter (is_held_at seat (k + 1)) placed)) next in
    let nth = ap (λ k. option_map_or (λ (s : Street). s.down + s.up) (slice_get (game_of setup.code).streets k) 0) index in
    let done = all_dealt setup rules events ends (count + 1) (omega arith) here in
    by_draw (has_draw setup.code (count + 1)) refl before all dealt out (one_more (game_of setup.code).streets count) same nth law done
  where
    by_draw : (b : Bool) → has_draw setup.code (count + 1) ≡ b
        → length (filter (is_held_at seat (count + 1)) (places_of setup.code (past_of setup events))) ≡ first_holes (game_of setup.code).streets count
        → length (filter (is_held_at seat ((count + 1) + 1)) (places_of setup.code (past_of setup events))) + length (filter (is_out_of (count + 1) seat) (places_of setup.code (past_of setup events))) ≡ length (filter (is_held_at seat (count + 1)) (places_of setup.code (past_of setup events))) + length (filter (is_in_group (Some seat) (count + 1)) (places_of setup.code (past_of setup events)))
        → length (filter (is_in_group (Some seat) (count + 1)) (places_of setup.code (past_of setup events))) ≡ hole_cards_dealt (past_of setup events) (count + 1) seat
        → length (filter (is_out_of (count + 1) seat) (places_of setup.code (past_of setup events))) ≡ cards_discarded (past_of setup events) (count + 1) seat
        → first_holes (game_of setup.code).streets (suc count) ≡ first_holes (game_of setup.code).streets count + option_map_or (λ s. s.down + s.up) (slice_get (game_of setup.code).streets count) 0
        → length (filter (is_held_at seat (suc count + 1)) (places_of setup.code (past_of setup events))) ≡ length (filter (is_held_at seat ((count + 1) + 1)) (places_of setup.code (past_of setup events)))
        → hole_cards_on setup.code (count + 1) ≡ option_map_or (λ s. s.down + s.up) (slice_get (game_of setup.code).streets count) 0
        → Rattle.play_laws.proofs.LegalPlaces.LegalPast setup (past_of setup events)
        → Rattle.play_laws.proofs.PlayedStreets.IsDone setup (past_of setup events) (count + 1)
        → length (filter (is_held_at seat (suc count + 1)) (places_of setup.code (past_of setup events))) ≡ first_holes (game_of setup.code).streets (suc count)
    by_draw true draws before all dealt out step same nth law done =
        omega (arith, before, all, dealt, out, step, same, nth, (draw_tables setup (count + 1) draws).no_hole, law.past.drawn_count (count + 1) seat draws, replaced setup (past_of setup events) (count + 1) seat draws done.no_draw in_hand.least in_hand.most)
    by_draw false draws before all dealt out step same nth law done =
        omega (arith, before, all, dealt, out, step, same, nth, law.past.undrawn (count + 1) seat draws, (legal_done setup rules events ends.legal).done.dealt_most (count + 1) seat draws, live_dealt setup (past_of setup events) (count + 1) seat done.no_deal in_hand.live in_hand.least in_hand.most)

-- what a live seat has on the table is what it did not discard
held_by : (moves : List Move) (seat : ℕ) (owner gone_after : Option ℕ) (street discarded count : ℕ) (mine : Bool) → is_live moves seat ≡ true → is_same_owner owner (Some seat) ≡ mine → street ≤ count → discarded ≤ count
    → is_some gone_after ≡ (nat_lt 0 discarded || has_owner_folded moves owner) → (mine && is_none gone_after) ≡ (mine && (nat_lt street (count + 1) && not (nat_lt 0 discarded && nat_lt discarded (count + 1))))
held_by moves seat owner gone_after street discarded count false live own on out gone = refl
held_by moves seat owner gone_after street discarded count true live own on out gone =
    let stays : has_owner_folded moves owner ≡ false = ap (has_owner_folded moves) (is_same_owner-true owner (Some seat) own) ∙ not_from_true (is_live moves seat) live in
    none_is gone_after (nat_lt 0 discarded) (gone ∙ (ap (λ b. nat_lt 0 discarded || b) stays ∙ or_none (nat_lt 0 discarded)))
    ∙ sym (ap (λ b. b && not (nat_lt 0 discarded && nat_lt discarded (count + 1))) (lt-ltb street (count + 1) (omega (arith, on)))
    ∙ ap (λ b. not (nat_lt 0 discarded && b)) (lt-ltb discarded (count + 1) (omega (arith, out)))
    ∙ ap not (and_true (nat_lt 0 discarded)))
  where
    or_none : (b : Bool) → (b || false) ≡ b
    or_none true = refl
    or_none false = refl

    and_true : (b : Bool) → (b && true) ≡ b
    and_true true = refl
    and_true false = refl

    none_is : (gone : Option ℕ) (b : Bool) → is_some gone ≡ b → is_none gone ≡ not b
    none_is (Some count) b is = ap not is
    none_is None b is = ap not is

pub whole_hands : (setup : Setup) (rules : Rules) (events : List Said) (seat : ℕ) → EndContested setup rules events → IsLiveSeat setup (past_of setup events) seat → length (held_slots (Some seat) (places_of setup.code (past_of setup events))) ≡ (game_of setup.code).hole
whole_hands setup rules events seat ends in_hand =
    let past : Past = past_of setup events in
    let placed : List Place = places_of setup.code past in
    let count : ℕ = street_count setup.code in
    let law = legal_past setup rules events ends.legal in
    length-map (filter (is_held_by seat) placed) (λ (place : Place). place.slot)
    ∙ ap length (same_filter (is_held_by seat) (is_held_at seat (count + 1)) placed (λ place among.
    held_by (moves_of past) seat place.owner place.gone_after place.street place.discarded count (is_same_owner place.owner (Some seat)) in_hand.live refl
    (omega (arith, law.places.reached place among, law.past.within)) (omega (arith, law.places.out_reached place among, law.past.within)) (law.places.gone_is place among)))
    ∙ (held_so_far setup rules events seat count ends in_hand (omega arith) ∙ whole_hand setup.code)
