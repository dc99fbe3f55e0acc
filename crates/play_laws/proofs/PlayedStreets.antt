-- What a legal and complete past guarantees of the streets that it reached: their cards are dealt
-- and drawn in full, and their betting was closed before the next street.
use Rattle.std.proofs.Common.{◌≡◌, ℕ, ◌+◌, ◌-◌, ◌≤◌, ◌<◌, Bool, true, false, ◌==◌, nat_lt, nat_le, inl, inr, ◌⊎◌, Option, Some, None, List, [], ◌∷◌, map, filter, length, refl, sym, ◌∙◌, ap, subst, arith, if◌then◌else◌}
use Rattle.std.specs.List.{list_any}
use Rattle.std.proofs.lemmas.Bool.{or_parts, or_cases, and_parts, both_ways, cases_Bool, cases_lt, ltb-false, leb-true, leb-false, eqb-true, not_from_false}
use Rattle.std.proofs.lemmas.List.Sums.{length-filter}
use Rattle.card_set.specs.declared.card.Slot.TheVariants as slots
use Rattle.play_event.specs.declared.code.Code.{Code}
use Rattle.play_event.specs.declared.reason.Due.{Due}
use Rattle.play_event.specs.declared.setup.Setup.{Setup}
use Rattle.play_event.specs.Games.{street_count, hole_cards_on, board_cards_on}
use Rattle.play_event.specs.Streets.{has_draw}
use Rattle.play_event.specs.Past.{Past, Move, Dealt, Boarded, Moved, Discarded, Shown, Mucked, moves_of, newest_street, is_folding, moves_before}
use Rattle.play_event.specs.Seats.{is_live, all_seats, live_count}
use Rattle.play_event.specs.Dealing.{is_deal_due, is_draw_due, board_cards_dealt, board_cards_owed, hole_cards_owed, cards_discarded}
use Rattle.play_event.specs.Due.{turn, due_on, first_due, is_bring_in_due, is_move_due, is_unfinished}
use Rattle.card_set.specs.Known.{known_among}
use Rattle.play_event.specs.Places.{Place, is_in_group, is_same_owner, after_fold, is_held_by, group_of}
use Rattle.play_event.specs.NameMatching.{after_discard, after_show, unmatched_names, blanks_in, can_be_named, is_show_of_all}
use Rattle.play_event.specs.Table.{places_of}
use Rattle.play_event.specs.Laws.{IsAmong}
use Rattle.card_set.proofs.Tests.{false_true}
use Rattle.play_event.proofs.StreetLaws.{street_found}
use Rattle.play_laws.specs.LegalPlaces.{has_owner_folded}
use Rattle.play_laws.specs.PastLaws.{has_move, PastLaw, DoneLaw, AreReached}
use Rattle.play_laws.proofs.DueAtEvents.{IsNotDue, not_due, IsDue, deal, draw, bring, move, is_due, turned_by}
use Rattle.play_laws.proofs.DoneKept.{late_fold, all_early}
use Rattle.play_laws.proofs.SettledStreets.{none_owed}
use Rattle.play_laws.proofs.LegalPlaces.{PlacesOf, group_count, deal_group, changed_group}
use Rattle.play_laws.proofs.QuietEvents.{discard_marks, show_marks, is_nothing, marked_changed, held_parts, fold_changed}
use Rattle.play_laws.proofs.PlaceGroups.{Passed, passed}
use Rattle.play_laws.proofs.DiscardCounts.{is_out_of}
use Rattle.play_event.proofs.OwnerLaws.{is_same_owner-true}
use Rattle.std.proofs.lemmas.List.{length-map}
use Rattle.play_event.proofs.DueStreets.{none_found}
use Rattle.card_set.proofs.Counting.{some_gone}

-- a script is unfinished if something is due on a street
due_open : (setup : Setup) (before : Past) (street : ℕ) (due : Due) → IsDue setup before street due → is_unfinished due ≡ true
due_open setup before street _ (deal so) = refl
due_open setup before street _ (draw no_deal so) = refl
due_open setup before street _ (bring no_deal no_draw so) = refl
due_open setup before street _ (move no_deal no_draw no_bring so) = refl

-- at the end of a contested hand nothing is due on any street
ended_by : (setup : Setup) (before : Past) (found : Option (ℕ × Due)) → found ≡ first_due (due_on setup before) (street_count setup.code + 1 - newest_street before) (newest_street before) → is_unfinished (turned_by setup before false found).1 ≡ false → newest_street before ≤ street_count setup.code → (street : ℕ) → newest_street before ≤ street → street ≤ street_count setup.code → due_on setup before street ≡ None
ended_by setup before None walked finished within street least most =
    none_found (due_on setup before) (street_count setup.code + 1 - newest_street before) (newest_street before) (sym walked) street least (omega (arith, most, within))
ended_by setup before (Some there) walked finished within street least most =
    let first = street_found (due_on setup before) (street_count setup.code + 1 - newest_street before) (newest_street before) there.0 there.1 (sym walked) in
    false_true (sym finished ∙ due_open setup before there.0 there.1 (is_due setup before there.0 there.1 first.is_due))

contested_end : (setup : Setup) (before : Past) → nat_le (live_count setup (moves_of before)) 1 ≡ false → is_unfinished (turn setup before).1 ≡ false → newest_street before ≤ street_count setup.code → (street : ℕ) → newest_street before ≤ street → street ≤ street_count setup.code → due_on setup before street ≡ None
unfolding turn
contested_end setup before several finished within =
    ended_by setup before (first_due (due_on setup before) (street_count setup.code + 1 - newest_street before) (newest_street before)) refl
    (ap (λ b. is_unfinished (turned_by setup before b (first_due (due_on setup before) (street_count setup.code + 1 - newest_street before) (newest_street before))).1) (sym several) ∙ finished) within

-- a hand reached a street: two or more seats were live when it began
abbrev pub IsReached : Setup → List Move → ℕ → Type 0
IsReached setup list street = nat_le (live_count setup (moves_before street list)) 1 ≡ false

reached_or_move : (setup : Setup) (before : Past) (street : ℕ) → PastLaw setup before → nat_le (live_count setup (moves_of before)) 1 ≡ true → IsReached setup (moves_of before) street → (street < newest_street before) ⊎ (has_move street (moves_of before) ≡ true)
reached_or_move setup before street past one reached =
    let few : live_count setup (moves_of before) ≤ 1 = leb-true (live_count setup (moves_of before)) 1 one in
    let many : 1 < live_count setup (moves_before street (moves_of before)) = leb-false (live_count setup (moves_before street (moves_of before))) 1 reached in
    let it = some_gone (is_live (moves_before street (moves_of before))) (is_live (moves_of before)) 1 setup.stacks.seats
    (omega (arith, few, many, length-filter (is_live (moves_of before)) (all_seats setup), length-filter (is_live (moves_before street (moves_of before))) (all_seats setup))) in
    late_fold (newest_street before) street it.0 (moves_of before) past.moved it.1.0 it.1.1

-- its deals and draws are done
pub record IsDone (setup : Setup) (before : Past) (street : ℕ) : Type 0 where
  pub no_deal : is_deal_due setup before street ≡ false
  pub no_draw : is_draw_due setup before street ≡ false

-- a street that a complete hand reached is done
pub reached_done : (setup : Setup) (before : Past) (street : ℕ) → PastLaw setup before → DoneLaw setup before → is_unfinished (turn setup before).1 ≡ false → 1 ≤ street → street ≤ street_count setup.code → IsReached setup (moves_of before) street → IsDone setup before street
reached_done setup before street past done finished some most reached = elim (cases_Bool (nat_le (live_count setup (moves_of before)) 1)) [
  | inl one ↦ elim (reached_or_move setup before street past one reached) [
    | inl early ↦ let it = done.earlier street some early in record { no_deal = it.0; no_draw = it.1.0 }
    | inr has ↦ let it = past.moved_done street has in record { no_deal = it.0; no_draw = it.1 }
  ]
  | inr several ↦ elim (cases_lt street (newest_street before)) [
    | inl early ↦ let it = done.earlier street some early in record { no_deal = it.0; no_draw = it.1.0 }
    | inr late ↦ let it = not_due setup before street (contested_end setup before several finished past.within street late most) in record { no_deal = it.no_deal; no_draw = it.no_draw }
  ]
]

-- its betting was closed before the next street
pub reached_closed : (setup : Setup) (before : Past) (street : ℕ) → PastLaw setup before → DoneLaw setup before → is_unfinished (turn setup before).1 ≡ false → 1 ≤ street → street ≤ street_count setup.code → IsReached setup (moves_of before) (street + 1) → (is_bring_in_due setup (moves_before (street + 1) (moves_of before)) street ≡ false) × (is_move_due setup (moves_before (street + 1) (moves_of before)) street ≡ false)
reached_closed setup before street past done finished some most reached = elim (cases_lt (newest_street before) (street + 1)) [
  | inr came ↦ done.closed street (street + 1) some (omega arith) came
  | inl beyond ↦ elim (cases_Bool (nat_le (live_count setup (moves_of before)) 1)) [
    | inl one ↦ absurd (elim (reached_or_move setup before (street + 1) past one reached) [ inl early ↦ omega (arith, early, beyond) | inr has ↦ moved_on (moves_of before) past.moved beyond has ])
    | inr several ↦
        let P : List Move → Type 0 = λ l. (is_bring_in_due setup l street ≡ false) × (is_move_due setup l street ≡ false) in
        let none : IsNotDue setup before street = elim (cases_lt street (newest_street before)) [
          | inl early ↦ let it = done.earlier street some early in record { no_deal = it.0; no_draw = it.1.0; no_bring = it.1.1.0; no_move = it.1.1.1 }
          | inr late ↦ not_due setup before street (contested_end setup before several finished past.within street late (omega (arith, most)))
        ] in
        subst P (sym (all_early (newest_street before) (street + 1) (moves_of before) past.moved beyond)) (none.no_bring, none.no_move)
  ]
]
  where
    moved_on : (list : List Move) → AreReached (newest_street before) list → newest_street before < street + 1 → has_move (street + 1) list ≡ true → ⊥
    moved_on [] all beyond has = both_ways false refl has
    moved_on (first ∷ rest) all beyond has = elim (or_cases (first.street == (street + 1)) (has_move (street + 1) rest) has) [
      | inl here ↦ omega (arith, eqb-true first.street (street + 1) here, all.0, beyond)
      | inr later ↦ moved_on rest all.1 beyond later
    ]

-- the board's cards of a street
pub board_count : (code : Code) (before : Past) (street : ℕ) → length (filter (is_in_group None street) (places_of code before)) ≡ board_cards_dealt before street
board_count code [] street = refl
board_count code (Dealt on owner cards ∷ before) street = omega (arith, deal_group code None (Some owner) street on cards (places_of code before), board_count code before street)
board_count code (Boarded on cards ∷ before) street =
    omega (arith, deal_group code None None street on (map (λ card. slots.Known card) cards) (places_of code before), board_count code before street, ap (λ n. if on == street then n else 0) (length-map cards (λ card. slots.Known card)))
board_count code (Moved played ∷ before) street = by_fold (is_folding played.act) (board_count code before street)
  where
    by_fold : (b : Bool) → length (filter (is_in_group None street) (places_of code before)) ≡ board_cards_dealt before street → length (filter (is_in_group None street) (if b then after_fold played.seat (places_of code before) else places_of code before)) ≡ board_cards_dealt before street
    by_fold true later = changed_group None street (length (places_of code before)) played.street played.seat (places_of code before) (after_fold played.seat (places_of code before)) (fold_changed played.seat (length (places_of code before)) played.street (places_of code before)) ∙ later
    by_fold false later = later
board_count code (Discarded on owner cards ∷ before) street =
    let placed = places_of code before in
    changed_group None street (length placed) on owner placed (after_discard on owner cards placed)
    (marked_changed (is_held_by owner) (length placed) on owner placed (after_discard on owner cards placed) (held_parts owner) (discard_marks (is_held_by owner) (length placed) on (known_among cards) (unmatched_names (filter (is_held_by owner) placed) (known_among cards)) (blanks_in cards) placed))
    ∙ board_count code before street
board_count code (Shown on owner cards ∷ before) street =
    let placed = places_of code before in
    let covers : Place → Bool = can_be_named code owner (is_show_of_all placed owner cards) in
    changed_group None street (length placed) on owner placed (after_show code owner cards placed)
    (marked_changed is_nothing (length placed) on owner placed (after_show code owner cards placed) (λ old is. false_true is) (show_marks covers (length placed) on cards (unmatched_names (filter covers placed) cards) 0 placed))
    ∙ board_count code before street
board_count code (Mucked on owner ∷ before) street = board_count code before street

-- the cards of a street that the hand reached
pub hole_group : (setup : Setup) (before : Past) (street seat : ℕ) → DoneLaw setup before → IsDone setup before street → has_draw setup.code street ≡ false → 1 ≤ street → 1 ≤ seat → seat ≤ setup.stacks.seats → is_live (moves_before street (moves_of before)) seat ≡ true → length (group_of (places_of setup.code before) street (Some seat)) ≡ hole_cards_on setup.code street
hole_group setup before street seat done is no_draw some least most live =
    omega (arith, group_count setup.code before street seat, done.dealt_most street seat no_draw, done.dealt street seat some least most is.no_deal live)

-- a seat that folded before a street has no cards of it
pub folded_group : (setup : Setup) (before : Past) (street seat : ℕ) → PlacesOf setup before → is_live (moves_before street (moves_of before)) seat ≡ false → length (group_of (places_of setup.code before) street (Some seat)) ≡ 0
folded_group setup before street seat law folded = none_of (group_of (places_of setup.code before) street (Some seat)) (λ place among. in_it place (passed (is_in_group (Some seat) street) (places_of setup.code before) place among))
  where
    in_it : (place : Place) → Passed (is_in_group (Some seat) street) (places_of setup.code before) place → ⊥
    in_it place it =
        let parts = and_parts (is_same_owner place.owner (Some seat)) (place.street == street) it.passes in
        omega (arith, eqb-true place.street street parts.1, law.folded_after place street it.among (ap (has_owner_folded (moves_before street (moves_of before))) (is_same_owner-true place.owner (Some seat) parts.0) ∙ not_from_false (is_live (moves_before street (moves_of before)) seat) folded))

    none_of : (places : List Place) → ((place : Place) → IsAmong places place → ⊥) → length places ≡ 0
    none_of [] never = refl
    none_of (first ∷ rest) never = absurd (never first (inl refl))

-- on a street with a draw each seat has as many new cards as it discarded
pub draw_group : (setup : Setup) (before : Past) (street seat : ℕ) → PastLaw setup before → IsDone setup before street → ((street seat : ℕ) → 1 ≤ street → length (filter (is_out_of street seat) (places_of setup.code before)) ≡ cards_discarded before street seat) → has_draw setup.code street ≡ true → 1 ≤ street → 1 ≤ seat → seat ≤ setup.stacks.seats → length (group_of (places_of setup.code before) street (Some seat)) ≡ length (filter (is_out_of street seat) (places_of setup.code before))
draw_group setup before street seat past is counts draws_there some least most =
    omega (arith, group_count setup.code before street seat, counts street seat some, past.drawn_count street seat draws_there, none_owed setup before street seat draws_there is.no_draw least most)

-- a street that is done has its board in full
pub board_group : (setup : Setup) (before : Past) (street : ℕ) → DoneLaw setup before → IsDone setup before street → length (group_of (places_of setup.code before) street None) ≡ board_cards_on setup.code street
board_group setup before street done is =
    let parts = or_parts (list_any (λ seat. nat_lt 0 (hole_cards_owed setup before street seat)) (all_seats setup)) (nat_lt 0 (board_cards_owed setup before street)) is.no_deal in
    omega (arith, board_count setup.code before street, done.board_most street, ltb-false 0 (board_cards_owed setup before street) parts.1)
