-- What the seats and the board have, in a game with a board, once the board cards of some street
-- are dealt.
use Rattle.std.proofs.Common.{◌≡◌, ◌+◌, ◌≤◌, ◌<◌, ◌==◌, nat_lt, ℕ, zero, suc, Bool, true, false, List, [], ◌∷◌, ◌++◌, map, filter, flat_map, length, Some, None, inl, inr, refl, sym, ◌∙◌, ap, arith, length-append}
use Rattle.std.specs.List.{range_with_len}
use Rattle.std.proofs.lemmas.Bool.{and_from, and_left, and_parts, cases_lt, eq-eqb, eqb-true, lt-ltb}
use Rattle.std.proofs.lemmas.List.{length-map, map-append}
use Rattle.card_set.specs.declared.card.Slot.{Slot}
use Rattle.play_event.specs.CanonScript.{dealt_slots, held_slots}
use Rattle.canon_laws.proofs.TraceOrder.{finals_group, finals_of, the_board}
use Rattle.canon_laws.proofs.TraceOrderCounts.{legal_owned, seat_same}
use Rattle.canon_laws.proofs.TracedSlots.{dealt_same, discarded_same}
use Rattle.canon_laws.proofs.AllStreets.{legal_since, none_first}
use Rattle.card_set.proofs.NumbersOfRange.{flat_more}
use Rattle.play_event.specs.declared.setup.Rules.{Rules}
use Rattle.play_event.specs.declared.setup.Setup.{Setup}
use Rattle.play_event.specs.Games.{board_cards_on, game_of, street_count}
use Rattle.play_event.specs.Laws.{AreLegal, IsAmong}
use Rattle.play_event.specs.Past.{Move, moves_before, moves_of, newest_street}
use Rattle.play_event.specs.Places.{Place, group_of, is_in_group, is_same_owner}
use Rattle.play_event.specs.Said.{Said}
use Rattle.play_event.specs.Scripts.{past_of}
use Rattle.play_event.specs.Seats.{is_live}
use Rattle.play_event.specs.Table.{places_of}
use Rattle.play_event.specs.Trace.{traced_places}
use Rattle.play_laws.proofs.DiscardCounts.{is_out_of, out_counts}
use Rattle.play_laws.proofs.DonePasts.{legal_done}
use Rattle.play_laws.proofs.FittingMoves.{same_filter}
use Rattle.play_laws.proofs.InDeck.{legal_cards}
use Rattle.play_laws.proofs.LegalPlaces.{group_count, legal_past, some_passes}
use Rattle.play_laws.proofs.PlaceGroups.{passed}
use Rattle.play_laws.proofs.PlaceLists.{rising}
use Rattle.play_laws.proofs.PlayedStreets.{board_count}
use Rattle.play_laws.proofs.UnknownOrder.{legal_sorted}
use Rattle.play_laws.proofs.StreetSplits.{by_streets, is_before, none_before, split}
use Rattle.hand_equity.specs.Street.{board_slots}
use Rattle.hand_equity.proofs.BoardSlots.{fewer}
use Rattle.hand_equity.proofs.FlopGames.{IsFlopGame}

-- legal events of a game with a board
pub record AreFlopEvents (setup : Setup) (rules : Rules) (events : List Said) : Type 0 where
  pub legal : AreLegal setup rules events
  pub game : IsFlopGame setup.code

abbrev pub slot_of : Place → Slot
slot_of place = place.slot

-- nothing was discarded
none_out : (setup : Setup) (rules : Rules) (events : List Said) (seat : ℕ) (place : Place) → AreFlopEvents setup rules events → IsAmong (places_of setup.code (past_of setup events)) place → is_same_owner place.owner (Some seat) ≡ true → place.discarded ≡ 0
none_out setup rules events seat place are among mine =
    elim (cases_lt 0 place.discarded) [
      | inr none ↦ omega (arith, none)
      | inl some ↦
          let d = place.discarded in
          let placed = places_of setup.code (past_of setup events) in
          let one = some_passes (is_out_of d seat) placed place among (and_from (is_same_owner place.owner (Some seat)) (place.discarded == d) mine (eq-eqb d d refl)) in
          let counted = out_counts setup rules events are.legal d seat some in
          let never = (legal_past setup rules events are.legal).past.undrawn d seat (are.game.no_draw d) in
          absurd (omega (arith, one, counted, never))
    ]

-- so what a seat has is what it was dealt
own_places : (setup : Setup) (rules : Rules) (events : List Said) (seat : ℕ) → AreFlopEvents setup rules events → filter (is_out_of 0 seat) (places_of setup.code (past_of setup events)) ≡ filter (is_before (Some seat) (4 + 1)) (places_of setup.code (past_of setup events))
own_places setup rules events seat are =
    let past = past_of setup events in
    let placed = places_of setup.code past in
    let law = legal_past setup rules events are.legal in
    same_filter (is_out_of 0 seat) (is_before (Some seat) (4 + 1)) placed (λ place among.
    let most : place.street < 4 + 1 = omega (arith, law.places.reached place among, law.past.within, are.game.count) in
    own_test place (is_same_owner place.owner (Some seat)) refl (lt-ltb place.street (4 + 1) most) (λ mine. none_out setup rules events seat place are among mine))
  where
    own_test : (place : Place) (b : Bool) → is_same_owner place.owner (Some seat) ≡ b → nat_lt place.street (4 + 1) ≡ true → (is_same_owner place.owner (Some seat) ≡ true → place.discarded ≡ 0) → is_out_of 0 seat place ≡ is_before (Some seat) (4 + 1) place
    own_test place true mine on none = and_from (is_same_owner place.owner (Some seat)) (place.discarded == 0) mine (eq-eqb place.discarded 0 (none mine)) ∙ sym (and_from (is_same_owner place.owner (Some seat)) (nat_lt place.street (4 + 1)) mine on)
    own_test place false other on none = and_left (is_same_owner place.owner (Some seat)) (place.discarded == 0) other ∙ sym (and_left (is_same_owner place.owner (Some seat)) (nat_lt place.street (4 + 1)) other)

-- the dealt cards of one seat, in the order of the trace
pub held_places : (setup : Setup) (rules : Rules) (events : List Said) (seat : ℕ) → AreFlopEvents setup rules events → 1 ≤ seat → seat ≤ setup.stacks.seats → held_slots (traced_places setup (past_of setup events)) seat ≡ map slot_of (filter (is_out_of 0 seat) (places_of setup.code (past_of setup events)))
held_places setup rules events seat are least most =
    let past = past_of setup events in
    let placed = places_of setup.code past in
    let law = legal_past setup rules events are.legal in
    discarded_same (finals_of setup placed (street_count setup.code)) seat 0
    ∙ ap (map slot_of) (seat_same setup placed (is_out_of 0 seat) seat (street_count setup.code) (rising 0 placed (legal_cards setup rules events are.legal).list.numbered) (legal_sorted setup rules events are.legal) (legal_owned setup rules events are.legal) least most
    (λ place is. (and_parts (is_same_owner place.owner (Some seat)) (place.discarded == 0) is).0)
    (λ place among is. (law.places.since place among, omega (arith, law.places.reached place among, law.past.within))))

-- the board of a street, in both orders
pub board_here : (setup : Setup) (rules : Rules) (events : List Said) (street : ℕ) → AreFlopEvents setup rules events → 1 ≤ street → street ≤ 4 → dealt_slots (traced_places setup (past_of setup events)) None street ≡ map slot_of (group_of (places_of setup.code (past_of setup events)) street None)
board_here setup rules events street are least most =
    let placed = places_of setup.code (past_of setup events) in
    dealt_same (finals_of setup placed (street_count setup.code)) None street
    ∙ ap (map slot_of) (finals_group setup placed None street (street_count setup.code) the_board least (omega (arith, most, are.game.count)))

-- the board of the streets up to one
pub board_is : (setup : Setup) (rules : Rules) (events : List Said) (street : ℕ) → AreFlopEvents setup rules events → street ≤ 4 → board_slots (traced_places setup (past_of setup events)) street ≡ map slot_of (filter (is_before None (street + 1)) (places_of setup.code (past_of setup events)))
board_is setup rules events zero are most =
    let placed = places_of setup.code (past_of setup events) in
    sym (ap (map slot_of) (none_before None placed (legal_past setup rules events are.legal).places.since))
board_is setup rules events (suc n) are most =
    let placed = places_of setup.code (past_of setup events) in
    let T = traced_places setup (past_of setup events) in
    let back : 1 + n ≡ n + 1 = omega arith in
    let up : n + 1 + 1 ≡ suc n + 1 = omega arith in
    flat_more (dealt_slots T None) 1 n
    ∙ ap (λ (l : List Slot). l ++ dealt_slots T None (1 + n)) (board_is setup rules events n are (omega (arith, most)))
    ∙ ap (λ (l : List Slot). map slot_of (filter (is_before None (n + 1)) placed) ++ l) (board_here setup rules events (1 + n) are (omega arith) (omega (arith, most)) ∙ ap (λ (k : ℕ). map slot_of (group_of placed k None)) back)
    ∙ sym (map-append slot_of (filter (is_before None (n + 1)) placed) (group_of placed (n + 1) None))
    ∙ ap (map slot_of) (sym (split None (n + 1) placed (legal_sorted setup rules events are.legal)))
    ∙ ap (λ (k : ℕ). map slot_of (filter (is_before None k) placed)) up

-- how many board cards a street has
board_most : (setup : Setup) (rules : Rules) (events : List Said) (street : ℕ) → AreFlopEvents setup rules events → 1 ≤ street → street ≤ 4 → length (dealt_slots (traced_places setup (past_of setup events)) None street) ≤ board_cards_on setup.code street
board_most setup rules events street are least most =
    let past = past_of setup events in
    let placed = places_of setup.code past in
    let here = ap (length {A = Slot}) (board_here setup rules events street are least most) in
    omega (arith, here, length-map (group_of placed street None) slot_of, board_count setup.code past street, (legal_done setup rules events are.legal).done.board_most street)

four_streets : (f : ℕ → List Slot) (a b c d : ℕ) → length (f 1) ≤ a → length (f 2) ≤ b → length (f 3) ≤ c → length (f 4) ≤ d → length (flat_map f (range_with_len 1 4)) ≤ a + b + c + d
four_streets f a b c d one two three four =
    let e = length-append (f 1) (f 2 ++ (f 3 ++ (f 4 ++ []))) in
    let g = length-append (f 2) (f 3 ++ (f 4 ++ [])) in
    let h = length-append (f 3) (f 4 ++ []) in
    let i = length-append (f 4) [] in
    omega (arith, e, g, h, i, one, two, three, four)

-- the board has at most five cards
pub board_few : (setup : Setup) (rules : Rules) (events : List Said) (street : ℕ) → AreFlopEvents setup rules events → street ≤ 4 → length (board_slots (traced_places setup (past_of setup events)) street) ≤ 5
board_few setup rules events street are most =
    let T = traced_places setup (past_of setup events) in
    let all = four_streets (dealt_slots T None) 0 3 1 1
    (omega (arith, board_most setup rules events 1 are (omega arith) (omega arith), are.game.none))
    (omega (arith, board_most setup rules events 2 are (omega arith) (omega arith), are.game.flop))
    (omega (arith, board_most setup rules events 3 are (omega arith) (omega arith), are.game.turn))
    (omega (arith, board_most setup rules events 4 are (omega arith) (omega arith), are.game.river)) in
    omega (arith, all, fewer T street 4 most)

-- a street with a board was reached
some_among : (places : List Place) → 0 < length places → (place : Place) × IsAmong places place
some_among [] some = absurd (omega (arith, some))
some_among (first ∷ rest) some = (first, inl refl)

pub reached : (setup : Setup) (rules : Rules) (events : List Said) (street : ℕ) → AreFlopEvents setup rules events → 1 ≤ street → street ≤ 4 → 0 < length (dealt_slots (traced_places setup (past_of setup events)) None street) → street ≤ newest_street (past_of setup events)
reached setup rules events street are least most some =
    let past = past_of setup events in
    let placed = places_of setup.code past in
    let here = ap (length {A = Slot}) (board_here setup rules events street are least most) in
    let found = some_among (group_of placed street None) (omega (arith, here, length-map (group_of placed street None) slot_of, some)) in
    let is = passed (is_in_group None street) placed found.0 found.1 in
    let on = eqb-true found.0.street street (and_parts (is_same_owner found.0.owner None) (found.0.street == street) is.passes).1 in
    omega (arith, on, (legal_past setup rules events are.legal).places.reached found.0 is.among)

-- each seat has all its hole cards
pub whole : (setup : Setup) (rules : Rules) (events : List Said) (seat : ℕ) → AreFlopEvents setup rules events → 1 ≤ seat → seat ≤ setup.stacks.seats → 2 ≤ newest_street (past_of setup events) → length (held_slots (traced_places setup (past_of setup events)) seat) ≡ (game_of setup.code).hole
whole setup rules events seat are least most begun =
    let past = past_of setup events in
    let placed = places_of setup.code past in
    let law = legal_past setup rules events are.legal in
    let done = (legal_done setup rules events are.legal).done in
    let slots = ap (length {A = Slot}) (held_places setup rules events seat are least most) in
    let places = length-map (filter (is_out_of 0 seat) placed) slot_of in
    let own = ap (length {A = Place}) (own_places setup rules events seat are) in
    let each = ap (length {A = Place}) (by_streets (Some seat) 4 placed (legal_sorted setup rules events are.legal) law.places.since) in
    let live : is_live (moves_before (0 + 1) (moves_of past)) seat ≡ true = ap (λ (l : List Move). is_live l seat) (none_first (moves_of past) (legal_since setup rules events are.legal)) in
    let dealt = done.dealt 1 seat (omega arith) least most (done.earlier 1 (omega arith) (omega (arith, begun))).0 live in
    let e = length-append (group_of placed 1 (Some seat)) (group_of placed 2 (Some seat) ++ (group_of placed 3 (Some seat) ++ (group_of placed 4 (Some seat) ++ []))) in
    let f = length-append (group_of placed 2 (Some seat)) (group_of placed 3 (Some seat) ++ (group_of placed 4 (Some seat) ++ [])) in
    let g = length-append (group_of placed 3 (Some seat)) (group_of placed 4 (Some seat) ++ []) in
    let h = length-append (group_of placed 4 (Some seat)) [] in
    omega (
      arith,
      slots,
      places,
      own,
      each,
      dealt,
      e,
      f,
      g,
      h,
      are.game.first,
      group_count setup.code past 1 seat,
      done.dealt_most 1 seat (are.game.no_draw 1),
      group_count setup.code past 2 seat,
      done.dealt_most 2 seat (are.game.no_draw 2),
      are.game.later 2 (omega arith),
      group_count setup.code past 3 seat,
      done.dealt_most 3 seat (are.game.no_draw 3),
      are.game.later 3 (omega arith),
      group_count setup.code past 4 seat,
      done.dealt_most 4 seat (are.game.no_draw 4),
      are.game.later 4 (omega arith),
    )
