-- The trace of a legal script has tidy cards.
use Rattle.std.proofs.Common.{◌≡◌, ℕ, zero, suc, ◌+◌, ◌-◌, ◌≤◌, Bool, true, false, ◌&&◌, ◌==◌, not, nat_lt, inl, inr, Option, Some, None, List, [], ◌∷◌, map, filter, reverse, length, refl, sym, ◌∙◌, ap, arith, subst, slice_get}
use Rattle.std.specs.List.{list_any}
use Rattle.std.specs.Option.{option_map_or}
use Rattle.std.proofs.lemmas.Bool.{and_parts, and_from, and_left, eqb-true, lt-ltb, le-ltb, or_parts, or_from, not_from_false, false_from_ne_true, both_ways, cases_lt, ltb-false}
use Rattle.std.proofs.lemmas.List.{length-map}
use Rattle.play_event.specs.declared.code.Code.{Code}
use Rattle.play_event.specs.declared.code.Code.TheVariants as games
use Rattle.play_event.specs.declared.setup.Setup.{Setup}
use Rattle.play_event.specs.declared.setup.Rules.{Rules}
use Rattle.play_event.specs.Games.{game_of, street_count}
use Rattle.play_event.specs.declared.street.Street.{Street}
use Rattle.play_event.specs.Streets.{has_draw}
use Rattle.play_event.specs.Said.{Said}
use Rattle.play_event.specs.Past.{Past, moves_of}
use Rattle.play_event.specs.Seats.{all_seats}
use Rattle.play_event.specs.Dealing.{hole_cards_dealt}
use Rattle.play_event.specs.Places.{Place, is_same_owner, is_in_group}
use Rattle.play_event.specs.Table.{places_of}
use Rattle.play_event.specs.Trace.{is_shown, TracedPlace, traced_place}
use Rattle.play_event.specs.Scripts.{past_of, past_at_end}
use Rattle.card_set.specs.Known.{hides_card}
use Rattle.play_event.specs.Laws.{AreLegal, IsAmong}
use Rattle.play_event.specs.TraceCore.{TraceCore, core_of, core_after}
use Rattle.play_event.specs.PlayedScript.{IsPlayed}
use Rattle.play_event.specs.CanonScript.{dealt_slots, discarded_slots, held_slots}
use Rattle.std.proofs.lemmas.Option.{same_Some}
use Rattle.card_set.proofs.Options.{some_is_none}
use Rattle.play_event.specs.Tidy.{HasTidyCards, IsTidy}
use Rattle.play_laws.proofs.LegalPlaces.{legal_past, group_count}
use Rattle.play_laws.proofs.DonePasts.{legal_done}
use Rattle.play_laws.proofs.PlayedStreets.{board_count}
use Rattle.play_laws.proofs.DiscardCounts.{is_out_of, out_counts}
use Rattle.canon_laws.proofs.TraceOrder.{IsOwner, finals_of, is_final, finals_group, a_seat, the_board}
use Rattle.canon_laws.proofs.TraceOrderCounts.{legal_owned, seat_same}
use Rattle.play_laws.proofs.UnknownOrder.{legal_sorted}
use Rattle.play_laws.proofs.InDeck.{legal_cards}
use Rattle.play_laws.proofs.PlaceLists.{rising}
use Rattle.play_laws.proofs.PlaceGroups.{Passed, passed}
use Rattle.play_laws.proofs.KnownBoard.{board_known}
use Rattle.canon_laws.proofs.TracedSlots.{dealt_same, discarded_same}
use Rattle.canon_laws.proofs.StreetDiscards.{out_finals}
use Rattle.canon_laws.proofs.HeldSame.{held_script, any_held}
use Rattle.canon_laws.proofs.LastPast.{shown_parts}
use Rattle.play_laws.proofs.HeldFew.{is_held_at, filter_less, held_seven, out_seven, holes_seven}
use Rattle.play_event.proofs.OwnerLaws.{is_same_owner-true}
use Rattle.card_set.proofs.NumbersOfRange.{is_in, not_above, not_in}
use Rattle.play_event.proofs.TracedMoves.{as_many}

few_board : (streets : List Street) (index : ℕ) → list_any (λ s. nat_lt 7 s.board) streets ≡ false → option_map_or (λ s. s.board) (slice_get streets index) 0 ≤ 7
few_board [] index none = omega arith
few_board (first ∷ rest) zero none = omega (arith, ltb-false 7 first.board (or_parts (nat_lt 7 first.board) (list_any (λ s. nat_lt 7 s.board) rest) none).0)
few_board (first ∷ rest) (suc index) none = few_board rest index (or_parts (nat_lt 7 first.board) (list_any (λ s. nat_lt 7 s.board) rest) none).1

few_boards : (code : Code) → list_any (λ s. nat_lt 7 s.board) (game_of code).streets ≡ false
few_boards games.FT = refl
few_boards games.NT = refl
few_boards games.NS = refl
few_boards games.PO = refl
few_boards games.FO8 = refl
few_boards games.F7S = refl
few_boards games.F7S8 = refl
few_boards games.FR = refl
few_boards games.N2L1D = refl
few_boards games.F2L3D = refl
few_boards games.FB = refl

none_traced : (q : TracedPlace → Bool) (placed : List Place) → ((place : Place) → IsAmong placed place → q (traced_place place) ≡ false) → list_any q (map traced_place placed) ≡ false
none_traced q [] none = refl
none_traced q (first ∷ rest) none = or_from (q (traced_place first)) (list_any q (map traced_place rest)) (none first (inl refl)) (none_traced q rest (λ place among. none place (inr among)))

-- the cards of a trace, for each seat and street of its hand
record HasFewCards (setup : Setup) (trace : TraceCore) : Type 0 where
  board_known : list_any (λ place. is_same_owner place.owner None && hides_card place.slot) trace.places ≡ false
  shown_known : (seat : ℕ) → 1 ≤ seat → seat ≤ setup.stacks.seats → list_any (λ other. other == seat) trace.shown ≡ true → list_any hides_card (held_slots trace.places seat) ≡ false
  dealt_few : (seat street : ℕ) → 1 ≤ seat → seat ≤ setup.stacks.seats → 1 ≤ street → street ≤ street_count setup.code → length (dealt_slots trace.places (Some seat) street) ≤ 7
  board_few : (street : ℕ) → 1 ≤ street → street ≤ street_count setup.code → length (dealt_slots trace.places None street) ≤ 7
  discards_few : (seat street : ℕ) → 1 ≤ seat → seat ≤ setup.stacks.seats → 1 ≤ street → street ≤ street_count setup.code → length (discarded_slots trace.places seat street) ≤ 7
  held_few : (seat : ℕ) → 1 ≤ seat → seat ≤ setup.stacks.seats → length (held_slots trace.places seat) ≤ 7

few_cards : (setup : Setup) (rules : Rules) (events : List Said) → AreLegal setup rules events → HasFewCards setup (core_of setup (past_of setup events))
few_cards setup rules events legal =
    let script : Past = past_of setup events in
    let placed : List Place = places_of setup.code script in
    let count : ℕ = street_count setup.code in
    let finals : List Place = finals_of setup placed count in
    let law = legal_past setup rules events legal in
    let done = (legal_done setup rules events legal).done in
    record {
      board_known = none_traced (λ place. is_same_owner place.owner None && hides_card place.slot) finals (λ place among.
          false_from_ne_true (is_same_owner place.owner None && hides_card place.slot) (λ both.
          let parts = and_parts (is_same_owner place.owner None) (hides_card place.slot) both in
          both_ways (hides_card place.slot) (board_known setup rules events legal place (is_final setup placed count place among).among (is_same_owner-true place.owner None parts.0)) parts.1));
      shown_known = λ seat least most shown.
          let is : is_shown setup script seat ≡ true = sym (is_in (is_shown setup script) 1 setup.stacks.seats seat least (omega (arith, most))) ∙ shown in
          let parts = shown_parts setup script seat is in
          ap (list_any hides_card) (discarded_same finals seat 0 ∙ held_script setup rules events seat legal least most parts.live) ∙ (sym (any_held seat placed) ∙ parts.known);
      dealt_few = λ seat street least most some within.
          omega (
            arith,
            ap (λ l. length l) (dealt_same finals (Some seat) street),
            length-map (filter (is_in_group (Some seat) street) finals) (λ (p : Place). p.slot),
            ap (λ (l : List Place). length l) (finals_group setup placed (Some seat) street count (a_seat seat least most) some within),
            group_count setup.code script street seat,
            dealt_by seat street some (has_draw setup.code street) refl,
          );
      board_few = λ street some within.
          omega (
            arith,
            ap (λ l. length l) (dealt_same finals None street),
            length-map (filter (is_in_group None street) finals) (λ (p : Place). p.slot),
            ap (λ (l : List Place). length l) (finals_group setup placed None street count the_board some within),
            board_count setup.code script street,
            done.board_most street,
            few_board (game_of setup.code).streets (street - 1) (few_boards setup.code),
          );
      discards_few = λ seat street least most some within.
          omega (
            arith,
            ap (λ l. length l) (discarded_same finals seat street),
            length-map (filter (is_out_of street seat) finals) (λ (p : Place). p.slot),
            ap (λ (l : List Place). length l) (out_finals setup rules events street seat count legal some (omega (arith, within)) least most),
            out_seven setup rules events seat street legal some,
          );
      held_few = λ seat least most.
          omega (
            arith,
            ap (λ l. length l) (discarded_same finals seat 0),
            length-map (filter (is_out_of 0 seat) finals) (λ (p : Place). p.slot),
            ap (λ (l : List Place). length l) (held_finals seat least most),
            held_seven setup rules events seat count legal,
            filter_less (is_out_of 0 seat) (is_held_at seat (count + 1)) placed (λ place among is.
                let parts = and_parts (is_same_owner place.owner (Some seat)) (place.discarded == 0) is in
                let none : place.discarded ≡ 0 = eqb-true place.discarded 0 parts.1 in
                and_from (is_same_owner place.owner (Some seat)) (nat_lt place.street (count + 1) && not (nat_lt 0 place.discarded && nat_lt place.discarded (count + 1))) parts.0
                (and_from (nat_lt place.street (count + 1)) (not (nat_lt 0 place.discarded && nat_lt place.discarded (count + 1))) (lt-ltb place.street (count + 1) (omega (arith, law.places.reached place among, law.past.within)))
                (not_from_false (nat_lt 0 place.discarded && nat_lt place.discarded (count + 1)) (and_left (nat_lt 0 place.discarded) (nat_lt place.discarded (count + 1)) (le-ltb 0 place.discarded (omega (arith, none))))))),
          );
    }
  where
    dealt_by : (seat street : ℕ) → 1 ≤ street → (b : Bool) → has_draw setup.code street ≡ b → hole_cards_dealt (past_of setup events) street seat ≤ 7
    dealt_by seat street some true draws = omega (arith, (legal_past setup rules events legal).past.drawn_count street seat draws, out_counts setup rules events legal street seat some, out_seven setup rules events seat street legal some)
    dealt_by seat street some false no_draw = omega (arith, (legal_done setup rules events legal).done.dealt_most street seat no_draw, holes_seven setup.code street some)

    held_finals : (seat : ℕ) → 1 ≤ seat → seat ≤ setup.stacks.seats → filter (is_out_of 0 seat) (finals_of setup (places_of setup.code (past_of setup events)) (street_count setup.code)) ≡ filter (is_out_of 0 seat) (places_of setup.code (past_of setup events))
    held_finals seat least most =
        let placed : List Place = places_of setup.code (past_of setup events) in
        let law = legal_past setup rules events legal in
        seat_same setup placed (is_out_of 0 seat) seat (street_count setup.code) (rising 0 placed (legal_cards setup rules events legal).list.numbered) (legal_sorted setup rules events legal) (legal_owned setup rules events legal) least most
        (λ place is. (and_parts (is_same_owner place.owner (Some seat)) (place.discarded == 0) is).0)
        (λ place among is. (law.places.since place among, omega (arith, law.places.reached place among, law.past.within)))

-- tests that no card of another owner or street passes
few_where : (p : Place → Bool) (placed : List Place) → ((place : Place) → Passed p placed place → length (filter p placed) ≤ 7) → length (filter p placed) ≤ 7
few_where p placed few = by_list (filter p placed) refl
  where
    by_list : (l : List Place) → filter p placed ≡ l → length (filter p placed) ≤ 7
    by_list [] is = omega (arith, ap (λ (l : List Place). length l) is)
    by_list (first ∷ rest) is = let P : List Place → Type 0 = λ l. IsAmong l first in few first (passed p placed first (subst P (sym is) (inl refl)))

-- the cards are tidy, for all owners and streets
pub tidy_cards : (setup : Setup) (rules : Rules) (events : List Said) → AreLegal setup rules events → HasTidyCards (core_of setup (past_of setup events))
tidy_cards setup rules events legal =
    let script : Past = past_of setup events in
    let placed : List Place = places_of setup.code script in
    let count : ℕ = street_count setup.code in
    let finals : List Place = finals_of setup placed count in
    let law = legal_past setup rules events legal in
    let few = few_cards setup rules events legal in
    let seats : (seat : ℕ) (place : Place) → IsAmong finals place → is_same_owner place.owner (Some seat) ≡ true → (1 ≤ seat) × (seat ≤ setup.stacks.seats) = λ seat place among own.
    let O : Option ℕ → Type 0 = IsOwner setup in
    in_range seat (Some seat) refl (subst O (is_same_owner-true place.owner (Some seat) own) (legal_owned setup rules events legal place (is_final setup placed count place among).among)) in
    record {
      board_known = few.board_known;
      shown_known = λ seat shown. elim (cases_lt 0 seat) [
        | inr none ↦ absurd (both_ways (list_any (λ other. other == seat) (filter (is_shown setup script) (all_seats setup))) (not_in (is_shown setup script) 1 setup.stacks.seats seat (omega (arith, none))) shown)
        | inl some ↦ elim (cases_lt setup.stacks.seats seat) [
          | inl above ↦ absurd (both_ways (list_any (λ other. other == seat) (filter (is_shown setup script) (all_seats setup))) (not_above (is_shown setup script) 1 setup.stacks.seats seat (omega (arith, above))) shown)
          | inr within ↦ few.shown_known seat (omega (arith, some)) within shown
        ]
      ];
      dealt_few = λ owner street.
          let slots_are = ap (λ l. length l) (dealt_same finals owner street) in
          let places_are = length-map (filter (is_in_group owner street) finals) (λ (p : Place). p.slot) in
          omega (
            arith,
            slots_are,
            places_are,
            few_where (is_in_group owner street) finals (λ place it.
                let parts = and_parts (is_same_owner place.owner owner) (place.street == street) it.passes in
                let here : place.street ≡ street = eqb-true place.street street parts.1 in
                let final = is_final setup placed count place it.among in
                let O : Option ℕ → Type 0 = IsOwner setup in
                omega (arith, slots_are, places_are, by_owner owner street few (subst O (is_same_owner-true place.owner owner parts.0) (legal_owned setup rules events legal place final.among)) (omega (arith, here, final.least)) (omega (arith, here, final.most)))),
          );
      discards_few = λ seat street some.
          let slots_are = ap (λ l. length l) (discarded_same finals seat street) in
          let places_are = length-map (filter (is_out_of street seat) finals) (λ (p : Place). p.slot) in
          omega (
            arith,
            slots_are,
            places_are,
            few_where (is_out_of street seat) finals (λ place it.
                let parts = and_parts (is_same_owner place.owner (Some seat)) (place.discarded == street) it.passes in
                let here : place.discarded ≡ street = eqb-true place.discarded street parts.1 in
                let range = seats seat place it.among parts.0 in
                omega (arith, slots_are, places_are, few.discards_few seat street range.0 range.1 some (omega (arith, here, law.places.out_reached place (is_final setup placed count place it.among).among, law.past.within)))),
          );
      held_few = λ seat.
          let slots_are = ap (λ l. length l) (discarded_same finals seat 0) in
          let places_are = length-map (filter (is_out_of 0 seat) finals) (λ (p : Place). p.slot) in
          omega (
            arith,
            slots_are,
            places_are,
            few_where (is_out_of 0 seat) finals (λ place it.
                let parts = and_parts (is_same_owner place.owner (Some seat)) (place.discarded == 0) it.passes in
                let range = seats seat place it.among parts.0 in
                omega (arith, slots_are, places_are, few.held_few seat range.0 range.1)),
          );
    }
  where
    in_range : (seat : ℕ) (owner : Option ℕ) → owner ≡ Some seat → IsOwner setup owner → (1 ≤ seat) × (seat ≤ setup.stacks.seats)
    in_range seat _ is (a_seat other least most) = let same = same_Some other seat is in (omega (arith, same, least), omega (arith, same, most))
    in_range seat _ is the_board = absurd (some_is_none (sym is))

    by_owner : (owner : Option ℕ) (street : ℕ) → HasFewCards setup (core_of setup (past_of setup events)) → IsOwner setup owner → 1 ≤ street → street ≤ street_count setup.code → length (dealt_slots (core_of setup (past_of setup events)).places owner street) ≤ 7
    by_owner _ street few (a_seat seat least most) some within = few.dealt_few seat street least most some within
    by_owner _ street few the_board some within = few.board_few street some within

-- the trace of a script that is played to its end is tidy, if its moves are within the limit
pub tidy_trace : (setup : Setup) (rules : Rules) (script : List Said) → IsPlayed setup rules script → length (moves_of (past_at_end setup script)) ≤ 4096 → IsTidy (core_after setup script)
tidy_trace setup rules script played few =
    record {
      cards = tidy_cards setup rules (reverse script) played.legal;
      moves_few = omega (arith, few, as_many setup (moves_of (past_at_end setup script)));
    }
