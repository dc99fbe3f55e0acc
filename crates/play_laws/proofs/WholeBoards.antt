-- When a contested hand ends, the board is full.
use Rattle.std.proofs.Common.{◌≡◌, ℕ, zero, suc, ◌+◌, ◌-◌, ◌≤◌, Bool, true, false, ◌&&◌, nat_lt, inl, inr, Option, Some, None, is_none, List, [], ◌∷◌, ◌++◌, filter, length, count_by, slice_get, refl, sym, ap, ◌∙◌, arith, if◌then◌else◌}
use Rattle.std.specs.Option.{option_map_or}
use Rattle.std.specs.List.{list_any}
use Rattle.std.proofs.lemmas.Bool.{ltb-false, lt-ltb, or_parts}
use Rattle.std.proofs.lemmas.List.{length-append, length-map}
use Rattle.play_event.specs.Held.{held_slots, is_held}
use Rattle.card_set.specs.Known.{known_among, known_slots}
use Rattle.card_set.proofs.Options.{some_is_none}
use Rattle.card_set.proofs.Tests.{false_true}
use Rattle.play_event.specs.declared.code.Code.{Code}
use Rattle.play_event.specs.declared.code.Code.TheVariants as games
use Rattle.play_event.specs.declared.setup.Rules.{Rules}
use Rattle.play_event.specs.declared.setup.Setup.{Setup}
use Rattle.play_event.specs.Dealing.{board_cards_owed, hole_cards_owed}
use Rattle.play_event.specs.Games.{game_of, street_count}
use Rattle.play_event.specs.declared.street.Street.{Street}
use Rattle.play_event.specs.Laws.{AreLegal, IsAmong}
use Rattle.play_event.specs.NameMatching.{after_discard, after_show, blanks_in, can_be_named, is_show_of_all, unmatched_names}
use Rattle.play_event.specs.Past.{Past, Dealt, Boarded, Moved, Discarded, Shown, Mucked, is_folding}
use Rattle.play_event.specs.Places.{Place, after_fold, is_held_by, is_in_group, is_past_deck, is_same_owner, places_dealt}
use Rattle.play_event.specs.Said.{Said}
use Rattle.play_event.specs.Scripts.{past_of}
use Rattle.play_event.specs.Seats.{all_seats}
use Rattle.play_event.specs.Table.{places_of}
use Rattle.play_event.proofs.ClashLaws.{among_append}
use Rattle.play_laws.proofs.DealtPlaces.{are_new}
use Rattle.play_laws.proofs.DonePasts.{legal_done}
use Rattle.play_laws.proofs.FittingMoves.{same_filter}
use Rattle.play_laws.proofs.KeptPlaces.{changed_from}
use Rattle.play_laws.proofs.LegalPlaces.{legal_past}
use Rattle.play_laws.proofs.PlaceChanges.{stays, out, folds, AreChanged}
use Rattle.play_laws.proofs.PlayedStreets.{board_count}
use Rattle.play_laws.proofs.QuietEvents.{discard_marks, fold_changed, held_parts, marked_changed, is_nothing, show_marks}
use Rattle.play_laws.proofs.UnknownOrder.{legal_sorted}
use Rattle.play_laws.specs.ContestedEnd.{EndContested}
use Rattle.play_laws.proofs.AllDone.{all_dealt}
use Rattle.play_laws.proofs.StreetSplits.{is_before, none_before, split}

-- the board cards of the first streets
first_boards : List Street → ℕ → ℕ
first_boards [] count = 0
first_boards (s ∷ rest) zero = 0
first_boards (s ∷ rest) (suc count) = s.board + first_boards rest count

no_boards : (streets : List Street) → first_boards streets 0 ≡ 0
unfolding first_boards
no_boards [] = refl
no_boards (s ∷ rest) = refl

one_more : (streets : List Street) (count : ℕ) → first_boards streets (suc count) ≡ first_boards streets count + option_map_or (λ s. s.board) (slice_get streets count) 0
unfolding first_boards
one_more [] count = refl
one_more (s ∷ rest) zero = omega (arith, no_boards rest)
one_more (s ∷ rest) (suc count) = omega (arith, one_more rest count)

whole_board : (code : Code) → first_boards (game_of code).streets (street_count code) ≡ (game_of code).board
unfolding first_boards
whole_board games.FT = refl
whole_board games.NT = refl
whole_board games.NS = refl
whole_board games.PO = refl
whole_board games.FO8 = refl
whole_board games.F7S = refl
whole_board games.F7S8 = refl
whole_board games.FR = refl
whole_board games.N2L1D = refl
whole_board games.F2L3D = refl
whole_board games.FB = refl

-- the board's cards are never gone
pub BoardStays : List Place → Type 0
BoardStays placed = (place : Place) → IsAmong placed place → place.owner ≡ None → place.gone_after ≡ None

changed_stays : (count draw seat : ℕ) (olds news : List Place) → AreChanged count draw seat olds news → BoardStays olds → BoardStays news
unfolding BoardStays
changed_stays count draw seat olds news changed old_stays place among none =
    let it = changed_from count draw seat olds news place changed among in
    let was : it.old.owner ≡ None = sym it.change.owner ∙ none in
    elim it.change.how [
      | stays gone discarded ↦ gone ∙ old_stays it.old it.among was
      | out old_gone gone discarded owner ↦ absurd (some_is_none (sym owner ∙ was))
      | folds old_gone gone discarded owner ↦ absurd (some_is_none (sym owner ∙ was))
    ]

dealt_stays : (code : Code) (owner : Option ℕ) (on : ℕ) (cards : List Rattle.card_set.specs.declared.card.Slot.Slot) (placed : List Place) → BoardStays placed → BoardStays (placed ++ places_dealt owner on (is_past_deck code placed on) (count_by (is_in_group owner on) placed) (length placed) cards)
unfolding BoardStays
dealt_stays code owner on cards placed old_stays place among none =
    elim (among_append placed (places_dealt owner on (is_past_deck code placed on) (count_by (is_in_group owner on) placed) (length placed) cards) place among) [
      | inl old ↦ old_stays place old none
      | inr new ↦ (are_new owner on (is_past_deck code placed on) (count_by (is_in_group owner on) placed) (length placed) cards place new).gone_after
    ]

pub board_stays : (code : Code) (past : Past) → BoardStays (places_of code past)
unfolding BoardStays
board_stays code [] = λ place among none. absurd among
board_stays code (Dealt on owner cards ∷ before) = dealt_stays code (Some owner) on cards (places_of code before) (board_stays code before)
board_stays code (Boarded on cards ∷ before) = dealt_stays code None on (known_slots cards) (places_of code before) (board_stays code before)
board_stays code (Moved move ∷ before) = by_fold (is_folding move.act) (board_stays code before)
  where
    by_fold : (b : Bool) → BoardStays (places_of code before) → BoardStays (if b then after_fold move.seat (places_of code before) else places_of code before)
    by_fold true later = changed_stays (length (places_of code before)) move.street move.seat (places_of code before) (after_fold move.seat (places_of code before)) (fold_changed move.seat (length (places_of code before)) move.street (places_of code before)) later
    by_fold false later = later
board_stays code (Discarded on owner cards ∷ before) =
    let placed = places_of code before in
    changed_stays (length placed) on owner placed (after_discard on owner cards placed)
    (marked_changed (is_held_by owner) (length placed) on owner placed (after_discard on owner cards placed) (held_parts owner) (discard_marks (is_held_by owner) (length placed) on (known_among cards) (unmatched_names (filter (is_held_by owner) placed) (known_among cards)) (blanks_in cards) placed))
    (board_stays code before)
board_stays code (Shown on owner cards ∷ before) =
    let placed = places_of code before in
    let covers : Place → Bool = can_be_named code owner (is_show_of_all placed owner cards) in
    changed_stays (length placed) on owner placed (after_show code owner cards placed)
    (marked_changed is_nothing (length placed) on owner placed (after_show code owner cards placed) (λ old is. false_true is) (show_marks covers (length placed) on cards (unmatched_names (filter covers placed) cards) 0 placed))
    (board_stays code before)
board_stays code (Mucked on owner ∷ before) = board_stays code before

-- the board of the streets so far
board_so_far : (setup : Setup) (rules : Rules) (events : List Said) (count : ℕ) → EndContested setup rules events → count ≤ street_count setup.code → length (filter (is_before None (count + 1)) (places_of setup.code (past_of setup events))) ≡ first_boards (game_of setup.code).streets count
board_so_far setup rules events zero ends few =
    ap length (none_before None (places_of setup.code (past_of setup events)) (legal_past setup rules events ends.legal).places.since)
    ∙ sym (no_boards (game_of setup.code).streets)
board_so_far setup rules events (suc count) ends few =
    let past : Past = past_of setup events in
    let placed : List Place = places_of setup.code past in
    let here : count + 1 ≤ street_count setup.code = omega (arith, few) in
    let before = board_so_far setup rules events count ends (omega (arith, few)) in
    let next : (count + 1) + 1 ≡ suc count + 1 = omega arith in
    let index : (count + 1) - 1 ≡ count = omega arith in
    let same = ap (λ k. length (filter (is_before None k) placed)) next in
    let all = ap length (split None (count + 1) placed (legal_sorted setup rules events ends.legal)) in
    let both = length-append (filter (is_before None (count + 1)) placed) (filter (is_in_group None (count + 1)) placed) in
    let dealt = board_count setup.code past (count + 1) in
    let nth = ap (λ k. option_map_or (λ (s : Street). s.board) (slice_get (game_of setup.code).streets k) 0) index in
    let done = all_dealt setup rules events ends (count + 1) (omega arith) here in
    let owed = ltb-false 0 (board_cards_owed setup past (count + 1)) (or_parts (list_any (λ seat. nat_lt 0 (hole_cards_owed setup past (count + 1) seat)) (all_seats setup)) (nat_lt 0 (board_cards_owed setup past (count + 1))) done.no_deal).1 in
    omega (arith, before, same, all, both, dealt, nth, owed, one_more (game_of setup.code).streets count, (legal_done setup rules events ends.legal).done.board_most (count + 1))

-- on the table the board has all that it was dealt
board_test : (owner gone_after : Option ℕ) (street count : ℕ) (own : Bool) → is_same_owner owner None ≡ own → (own ≡ true → gone_after ≡ None) → street ≤ count → (own && is_none gone_after) ≡ (own && nat_lt street (count + 1))
board_test owner gone_after street count false is gone on = refl
board_test owner gone_after street count true is gone on = ap is_none (gone refl) ∙ sym (lt-ltb street (count + 1) (omega (arith, on)))

is_board : (owner : Option ℕ) → is_same_owner owner None ≡ true → owner ≡ None
is_board None is = refl
is_board (Some seat) is = false_true is

pub board_is : (setup : Setup) (rules : Rules) (events : List Said) → AreLegal setup rules events → filter (is_held None) (places_of setup.code (past_of setup events)) ≡ filter (is_before None (street_count setup.code + 1)) (places_of setup.code (past_of setup events))
unfolding BoardStays
board_is setup rules events legal =
    let past : Past = past_of setup events in
    let placed : List Place = places_of setup.code past in
    let law = legal_past setup rules events legal in
    same_filter (is_held None) (is_before None (street_count setup.code + 1)) placed (λ place among.
    board_test place.owner place.gone_after place.street (street_count setup.code) (is_same_owner place.owner None) refl (λ is. board_stays setup.code past place among (is_board place.owner is)) (omega (arith, law.places.reached place among, law.past.within)))

pub whole_boards : (setup : Setup) (rules : Rules) (events : List Said) → EndContested setup rules events → length (held_slots None (places_of setup.code (past_of setup events))) ≡ (game_of setup.code).board
whole_boards setup rules events ends =
    length-map (filter (is_held None) (places_of setup.code (past_of setup events))) (λ (place : Place). place.slot)
    ∙ ap length (board_is setup rules events ends.legal)
    ∙ (board_so_far setup rules events (street_count setup.code) ends (omega arith) ∙ whole_board setup.code)
