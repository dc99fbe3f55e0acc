-- The laws of places hold of every legal past.
use Rattle.std.proofs.Common.{◌≡◌, ℕ, suc, ◌+◌, ◌-◌, ◌≤◌, ◌<◌, Bool, true, false, ◌&&◌, ◌==◌, nat_le, inl, inr, ◌⊎◌, Option, Some, None, List, [], ◌∷◌, map, filter, length, count_by, refl, sym, ◌∙◌, ap, arith, if◌then◌else◌}
use Rattle.std.proofs.lemmas.Bool.{or_parts, and_parts, and_from, eq-eqb, both_ways, lt-ltb, leb-true, not_from_true, cases_lt}
use Rattle.std.proofs.lemmas.List.{length-append}
use Rattle.card_set.specs.declared.card.Slot.{Slot}
use Rattle.card_set.specs.declared.card.Slot.TheVariants as slots
use Rattle.std.proofs.lemmas.List.Elements.{filter-append}
use Rattle.play_event.specs.declared.code.Code.{Code}
use Rattle.play_event.specs.declared.setup.Setup.{Setup}
use Rattle.play_event.specs.declared.setup.Rules.{Rules}
use Rattle.play_event.specs.Games.{hole_cards_on}
use Rattle.play_event.specs.Streets.{has_draw}
use Rattle.play_event.specs.Said.{Said}
use Rattle.play_event.specs.Past.{Past, Resolved, Move, Dealt, Boarded, Moved, Discarded, Shown, Mucked, moves_of, newest_street, is_folding, moves_before}
use Rattle.play_event.specs.Seats.{is_live}
use Rattle.card_set.specs.Known.{known_among}
use Rattle.play_event.specs.Dealing.{hole_cards_dealt, hole_cards_owed, cards_owed}
use Rattle.play_event.specs.Due.{turn}
use Rattle.play_event.specs.Places.{Place, is_same_owner, is_in_group, is_past_deck, places_dealt, after_deal, is_held_by, after_fold}
use Rattle.play_event.specs.NameMatching.{after_discard, after_show, unmatched_names, blanks_in, can_be_named, is_show_of_all}
use Rattle.play_event.specs.Table.{places_of}
use Rattle.play_event.specs.CardReasons.{is_seat}
use Rattle.play_event.specs.Scripts.{with_event, past_of}
use Rattle.play_event.specs.Laws.{IsAmong, AreLegal}
use Rattle.card_set.proofs.Tests.{false_true, if_and_swap}
use Rattle.play_laws.specs.LegalPlaces.{has_owner_folded, PlacesLaw}
use Rattle.play_laws.proofs.PlaceChanges.{IsChange, AreChanged}
use Rattle.play_laws.specs.PastLaws.{AreReached, has_move, PastLaw}
use Rattle.play_laws.proofs.DueAtEvents.{Reaches, turn_reaches}
use Rattle.play_laws.proofs.LegalEvents.{Stepped, deals, boards, moves, discards, shows, mucks, stepped}
use Rattle.play_laws.proofs.PastLawKept.{past_law, unmoved_deal, DrawsNext, is_next_to_draw}
use Rattle.play_laws.proofs.QuietEvents.{discard_marks, show_marks, is_nothing, marked_changed, held_parts, marks_law, fold_law, move_law, fold_changed}
use Rattle.play_laws.proofs.DealtPlaces.{deal_law}
use Rattle.play_event.proofs.DealingLaws.{dealt_group, some_street, undrawn_none}

-- groups are as long as the deals to them
same_group : (owner : Option ℕ) (street count draw seat : ℕ) (old new : Place) → IsChange count draw seat old new → is_in_group owner street new ≡ is_in_group owner street old
same_group owner street count draw seat old new change = ap (λ o. is_same_owner o owner && (new.street == street)) change.owner ∙ ap (λ s. is_same_owner old.owner owner && (s == street)) change.street

-- filters that pass a place before a change if and only if they pass it after
pub group_step : (old new : Place) (olds news : List Place) (a b : Bool) → a ≡ b → length news ≡ length olds → length (if a then (new ∷ news) else news) ≡ length (if b then (old ∷ olds) else olds)
group_step old new olds news true true same later = ap suc later
group_step old new olds news true false same later = false_true (sym same)
group_step old new olds news false true same later = false_true same
group_step old new olds news false false same later = later

-- a change keeps the number of cards that an owner has of a street
pub changed_group : (owner : Option ℕ) (street count draw seat : ℕ) (olds news : List Place) → AreChanged count draw seat olds news → length (filter (is_in_group owner street) news) ≡ length (filter (is_in_group owner street) olds)
changed_group owner street count draw seat [] [] changed = refl
changed_group owner street count draw seat [] (new ∷ news) changed = absurd changed
changed_group owner street count draw seat (old ∷ olds) [] changed = absurd changed
changed_group owner street count draw seat (old ∷ olds) (new ∷ news) changed =
    group_step old new (filter (is_in_group owner street) olds) (filter (is_in_group owner street) news) (is_in_group owner street new) (is_in_group owner street old) (same_group owner street count draw seat old new changed.0) (changed_group owner street count draw seat olds news changed.1)

-- a deal adds its cards to its owner's of the street
pub deal_group : (code : Code) (owner to : Option ℕ) (street on : ℕ) (cards : List Slot) (placed : List Place) → length (filter (is_in_group owner street) (after_deal code to on cards placed)) ≡ (if is_same_owner to owner && (on == street) then length cards else 0) + length (filter (is_in_group owner street) placed)
deal_group code owner to street on cards placed =
    let news : List Place = places_dealt to on (is_past_deck code placed on) (count_by (is_in_group to on) placed) (length placed) cards in
    omega (arith, ap (λ (l : List Place). length l) (filter-append (is_in_group owner street) placed news), length-append (filter (is_in_group owner street) placed) (filter (is_in_group owner street) news), dealt_group owner to street on (is_past_deck code placed on) (count_by (is_in_group to on) placed) (length placed) cards)

-- a seat has as many places of a street as cards were dealt to it there
pub group_count : (code : Code) (before : Past) (street seat : ℕ) → length (filter (is_in_group (Some seat) street) (places_of code before)) ≡ hole_cards_dealt before street seat
group_count code [] street seat = refl
group_count code (Dealt on owner cards ∷ before) street seat =
    deal_group code (Some seat) (Some owner) street on cards (places_of code before)
    ∙ ap (λ n. n + length (filter (is_in_group (Some seat) street) (places_of code before))) (if_and_swap (owner == seat) (on == street) (length cards))
    ∙ ap (λ n. (if (on == street) && (owner == seat) then length cards else 0) + n) (group_count code before street seat)
group_count code (Boarded on cards ∷ before) street seat =
    omega (arith, deal_group code (Some seat) None street on (map (λ card. slots.Known card) cards) (places_of code before), group_count code before street seat)
group_count code (Moved move ∷ before) street seat = by_fold (is_folding move.act) (group_count code before street seat)
  where
    by_fold : (b : Bool) → length (filter (is_in_group (Some seat) street) (places_of code before)) ≡ hole_cards_dealt before street seat → length (filter (is_in_group (Some seat) street) (if b then after_fold move.seat (places_of code before) else places_of code before)) ≡ hole_cards_dealt before street seat
    by_fold true later = changed_group (Some seat) street (length (places_of code before)) move.street move.seat (places_of code before) (after_fold move.seat (places_of code before)) (fold_changed move.seat (length (places_of code before)) move.street (places_of code before)) ∙ later
    by_fold false later = later
group_count code (Discarded on owner cards ∷ before) street seat =
    let placed = places_of code before in
    changed_group (Some seat) street (length placed) on owner placed (after_discard on owner cards placed)
    (marked_changed (is_held_by owner) (length placed) on owner placed (after_discard on owner cards placed) (held_parts owner) (discard_marks (is_held_by owner) (length placed) on (known_among cards) (unmatched_names (filter (is_held_by owner) placed) (known_among cards)) (blanks_in cards) placed))
    ∙ group_count code before street seat
group_count code (Shown on owner cards ∷ before) street seat =
    let placed = places_of code before in
    let covers : Place → Bool = can_be_named code owner (is_show_of_all placed owner cards) in
    changed_group (Some seat) street (length placed) on owner placed (after_show code owner cards placed)
    (marked_changed is_nothing (length placed) on owner placed (after_show code owner cards placed) (λ old is. false_true is) (show_marks covers (length placed) on cards (unmatched_names (filter covers placed) cards) 0 placed))
    ∙ group_count code before street seat
group_count code (Mucked on owner ∷ before) street seat = group_count code before street seat

-- if a place is among those that pass, there is at least one
some_at : (p : Place → Bool) (first place : Place) (rest : List Place) (b : Bool) → p first ≡ b → p place ≡ true → ((first ≡ place) ⊎ (1 ≤ length (filter p rest))) → 1 ≤ length (if b then (first ∷ filter p rest) else filter p rest)
some_at p first place rest true here is in_it = omega arith
some_at p first place rest false here is (inl same) = false_true (sym here ∙ (ap p same ∙ is))
some_at p first place rest false here is (inr more) = more

-- if a place passes, one or more do
pub some_passes : (p : Place → Bool) (placed : List Place) (place : Place) → IsAmong placed place → p place ≡ true → 1 ≤ length (filter p placed)
some_passes p [] place among is = absurd among
some_passes p (first ∷ rest) place (inl same) is = some_at p first place rest (p first) refl is (inl same)
some_passes p (first ∷ rest) place (inr later) is = some_at p first place rest (p first) refl is (inr (some_passes p rest place later is))

-- all moves are before a street that has no move
all_before : (newest street : ℕ) (list : List Move) → AreReached newest list → newest ≤ street → has_move street list ≡ false → moves_before street list ≡ list
all_before newest street [] reached on none = refl
all_before newest street (move ∷ rest) reached on none =
    let parts = or_parts (move.street == street) (has_move street rest) none in
    let early : move.street < street = elim (cases_lt move.street street) [
      | inl less ↦ less
      | inr more ↦ absurd (both_ways (move.street == street) parts.0 (eq-eqb move.street street (omega (arith, more, reached.0, on))))
    ] in
    ap (λ b. if b then (move ∷ moves_before street rest) else moves_before street rest) (lt-ltb move.street street early)
    ∙ ap (λ l. move ∷ l) (all_before newest street rest reached.1 on parts.1)

-- a seat that is owed cards is live
owed_live : (setup : Setup) (before : Past) (street seat : ℕ) → PastLaw setup before → is_seat setup seat ≡ true → 1 ≤ cards_owed setup before street seat → has_owner_folded (moves_of before) (Some seat) ≡ false
owed_live setup before street seat law is owed = by_live (is_live (moves_of before) seat) refl
  where
    none : is_live (moves_of before) seat ≡ false → cards_owed setup before street seat ≡ 0
    none folded =
        let parts = and_parts (nat_le 1 seat) (nat_le seat setup.stacks.seats) is in
        ap (λ n. if has_draw setup.code street then n else hole_cards_owed setup before street seat) (law.folded_owed street seat (leb-true 1 seat parts.0) (leb-true seat setup.stacks.seats parts.1) folded)
        ∙ (ap (λ b. if has_draw setup.code street then 0 else (if b then hole_cards_on setup.code street - hole_cards_dealt before street seat else 0)) folded
        ∙ by_draw (has_draw setup.code street))
      where
        by_draw : (b : Bool) → ◌≡◌ {A = ℕ} (if b then 0 else 0) 0
        by_draw true = refl
        by_draw false = refl

    by_live : (b : Bool) → is_live (moves_of before) seat ≡ b → has_owner_folded (moves_of before) (Some seat) ≡ false
    by_live true live = not_from_true (is_live (moves_of before) seat) live
    by_live false folded = absurd (omega (arith, owed, none folded))

-- the law at a later street
later_law : (code : Code) (list : List Move) (newest street : ℕ) (placed : List Place) → PlacesLaw code list newest placed → newest ≤ street → PlacesLaw code list street placed
later_law code list newest street placed law on =
    record {
      number_within = law.number_within;
      gone_within = law.gone_within;
      since = law.since;
      reached = λ place among. omega (arith, law.reached place among, on);
      out_reached = λ place among. omega (arith, law.out_reached place among, on);
      gone_is = law.gone_is;
      out_after = law.out_after;
      folded_after = law.folded_after;
      gone_when = law.gone_when;
      late = law.late;
    }

-- each legal event keeps it
abbrev pub PlacesOf : Setup → Past → Type 0
PlacesOf setup before = PlacesLaw setup.code (moves_of before) (newest_street before) (places_of setup.code before)

-- a legal event keeps the law of places
pub places_law : (setup : Setup) (before : Past) (at : ℕ) (event : Resolved) → PastLaw setup before → PlacesOf setup before → Reaches setup before at → Stepped setup before at event → PlacesOf setup (event ∷ before)
places_law setup before at _ past law come (deals seat cards due is some few free) =
    deal_law setup.code (moves_of before) (newest_street before) at (Some seat) cards (places_of setup.code before) law come.on (omega (arith, past.since, come.on))
    (owed_live setup before at seat past is (omega (arith, some, few)))
    (all_before (newest_street before) at (moves_of before) past.moved come.on (unmoved_deal setup before at past due))
places_law setup before at _ past law come (boards cards due some few free) =
    deal_law setup.code (moves_of before) (newest_street before) at None (map (λ card. slots.Known card) cards) (places_of setup.code before) law come.on (omega (arith, past.since, come.on)) refl
    (all_before (newest_street before) at (moves_of before) past.moved come.on (unmoved_deal setup before at past (inl due)))
places_law setup before at _ past law come (shows seat cards may free) =
    let placed = places_of setup.code before in
    let covers : Place → Bool = can_be_named setup.code seat (is_show_of_all placed seat cards) in
    marks_law setup.code (moves_of before) (newest_street before) at seat is_nothing placed (after_show setup.code seat cards placed) law come.on (omega (arith, past.since, come.on)) (λ old is. false_true is) (λ old among is. false_true is)
    (show_marks covers (length placed) at cards (unmatched_names (filter covers placed) cards) 0 placed)
places_law setup before at _ past law come (mucks seat may) = later_law setup.code (moves_of before) (newest_street before) at (places_of setup.code before) law come.on
places_law setup before at _ past law come (discards seat cards no_deal draw next few free held) =
    let placed = places_of setup.code before in
    let who = is_next_to_draw setup before at seat next in
    marks_law setup.code (moves_of before) (newest_street before) at seat (is_held_by seat) placed (after_discard at seat cards placed) law come.on (omega (arith, past.since, come.on)) (held_parts seat)
    (λ old among is. early old among (held_parts seat old is).1 who)
    (discard_marks (is_held_by seat) (length placed) at (known_among cards) (unmatched_names (filter (is_held_by seat) placed) (known_among cards)) (blanks_in cards) placed)
  where
    early : (old : Place) → IsAmong (places_of setup.code before) old → old.owner ≡ Some seat → DrawsNext setup before at seat → old.street < at
    early old among mine who = elim (cases_lt old.street at) [
      | inl less ↦ less
      | inr more ↦
          let here : old.street ≡ at = omega (arith, more, law.reached old among, come.on) in
          let in_it : is_in_group (Some seat) at old ≡ true = and_from (is_same_owner old.owner (Some seat)) (old.street == at) (ap (λ o. is_same_owner o (Some seat)) mine ∙ eq-eqb seat seat refl) (eq-eqb old.street at here) in
          let draws_there : has_draw setup.code at ≡ true = (and_parts (has_draw setup.code at) _ draw).0 in
          absurd (omega (arith, some_passes (is_in_group (Some seat) at) (places_of setup.code before) old among in_it, group_count setup.code before at seat, past.drawn_count at seat draws_there, undrawn_none before at seat who.undrawn))
    ]
places_law setup before at _ past law come (moves move no_deal no_draw on) = by_fold (is_folding move.act) refl
  where
    by_fold : (b : Bool) → is_folding move.act ≡ b → PlacesLaw setup.code (move ∷ moves_of before) move.street (if b then after_fold move.seat (places_of setup.code before) else places_of setup.code before)
    by_fold true is = fold_law setup.code move (moves_of before) (newest_street before) (places_of setup.code before) law is (omega (arith, on, come.on)) (omega (arith, on, come.on, past.since))
    by_fold false is = move_law setup.code move (moves_of before) (newest_street before) (places_of setup.code before) law is (omega (arith, on, come.on)) (omega (arith, on, come.on, past.since))

at_start : (setup : Setup) → PastLaw setup []
at_start setup =
    record {
      within = some_street setup.code;
      since = omega arith;
      moved = tt;
      moved_done = λ street has. false_true has;
      drawn_count = λ street seat draws_there. omega arith;
      undrawn = λ street seat none. refl;
      owed_now = λ street seat least most differ. refl;
      folded_owed = λ street seat least most folded. refl;
    }

no_places : (setup : Setup) → PlacesOf setup []
no_places setup =
    record {
      number_within = λ place among. absurd among;
      gone_within = λ place count among is. absurd among;
      since = λ place among. absurd among;
      reached = λ place among. absurd among;
      out_reached = λ place among. absurd among;
      gone_is = λ place among. absurd among;
      out_after = λ place among some. absurd among;
      folded_after = λ place street among is. absurd among;
      gone_when = λ a b in_a in_b is. absurd in_a;
      late = λ place among is. absurd among;
    }

-- what a legal past guarantees of its streets and of its places
pub record LegalPast (setup : Setup) (before : Past) : Type 0 where
  pub past : PastLaw setup before
  pub places : PlacesOf setup before

-- after legal events both hold
pub legal_past : (setup : Setup) (rules : Rules) (events : List Said) → AreLegal setup rules events → LegalPast setup (past_of setup events)
unfolding with_event
legal_past setup rules [] legal = record { past = at_start setup; places = no_places setup }
legal_past setup rules (event ∷ events) legal =
    let before = past_of setup events in
    let it = legal_past setup rules events legal.1 in
    let come = turn_reaches setup before it.past.within in
    let step = stepped setup rules before event legal.0 in
    record { past = past_law setup before (turn setup before).0 _ it.past come step; places = places_law setup before (turn setup before).0 _ it.past it.places come step }
