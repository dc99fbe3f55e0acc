-- The places of a trace in its order, street by street and owner by owner.
use Rattle.std.proofs.Common.{◌≡◌, ℕ, zero, suc, ◌+◌, ◌≤◌, ◌<◌, Bool, true, false, ◌&&◌, ◌==◌, inl, inr, Option, Some, None, List, [], ◌∷◌, ◌++◌, map, filter, refl, sym, ◌∙◌, ap, arith, if◌then◌else◌}
use Rattle.std.specs.List.{list_any, flat_map, range_with_len}
use Rattle.std.proofs.lemmas.Bool.{or_cases, or_left, or_right, and_parts, and_from, and_left, and_right, eqb-true, eq-eqb, ne_eqb, cases_eq, cases_lt}
use Rattle.std.proofs.lemmas.List.{append-nil, append_assoc}
use Rattle.std.proofs.lemmas.List.Elements.{filter-append}
use Rattle.play_event.specs.declared.setup.Setup.{Setup}
use Rattle.play_event.specs.declared.setup.Rules.{Rules}
use Rattle.play_event.specs.Said.{Said}
use Rattle.play_event.specs.Past.{Past, Resolved, Moved, moves_of, newest_street, street_of, Discarded, Shown, Dealt, Mucked, Boarded, moves_before}
use Rattle.play_event.specs.Seats.{is_live, all_seats}
use Rattle.play_event.specs.Dealing.{has_drawn}
use Rattle.play_event.specs.Due.{turn}
use Rattle.play_event.specs.Places.{Place, is_same_owner, is_in_group, group_of}
use Rattle.play_event.specs.Scripts.{with_event, past_of}
use Rattle.play_event.specs.Trace.{owners, places_on}
use Rattle.play_event.specs.Laws.{IsAmong, AreLegal}
use Rattle.card_set.proofs.Tests.{false_true}
use Rattle.play_event.proofs.ClashLaws.{among_append}
use Rattle.play_laws.specs.PastLaws.{is_played_on}
use Rattle.play_laws.proofs.DueAtEvents.{Reaches, turn_reaches}
use Rattle.play_laws.proofs.LegalEvents.{Stepped, deals, boards, moves, discards, shows, mucks, stepped}
use Rattle.play_laws.proofs.PastLawKept.{is_next_to_draw}
use Rattle.play_laws.proofs.DoneKept.{before_same, live_before}
use Rattle.play_laws.proofs.DonePasts.{AreOn, played_on, legal_done}
use Rattle.play_laws.proofs.LegalPlaces.{legal_past}
use Rattle.play_laws.proofs.PlaceGroups.{Passed, passed}
use Rattle.play_event.proofs.OwnerLaws.{is_same_owner-true}
use Rattle.card_set.proofs.NumbersOfRange.{flat_more}
use Rattle.play_laws.proofs.FittingMoves.{none_pass}

-- who drew on a street was live when it began
pub record DrewLive (setup : Setup) (before : Past) (street seat : ℕ) : Type 0 where
  pub least : 1 ≤ seat
  pub most : seat ≤ setup.stacks.seats
  pub live : is_live (moves_before street (moves_of before)) seat ≡ true

drawn_plays : (before : Past) (street seat : ℕ) → has_drawn before street seat ≡ true → list_any (is_played_on street) before ≡ true
drawn_plays [] street seat has = false_true has
drawn_plays (Dealt on owner cards ∷ before) street seat has = or_right (on == street) (list_any (is_played_on street) before) (drawn_plays before street seat has)
drawn_plays (Boarded on cards ∷ before) street seat has = or_right (on == street) (list_any (is_played_on street) before) (drawn_plays before street seat has)
drawn_plays (Moved played ∷ before) street seat has = or_right (played.street == street) (list_any (is_played_on street) before) (drawn_plays before street seat has)
drawn_plays (Shown on owner cards ∷ before) street seat has = drawn_plays before street seat has
drawn_plays (Mucked on owner ∷ before) street seat has = drawn_plays before street seat has
drawn_plays (Discarded on owner cards ∷ before) street seat has = elim (or_cases ((on == street) && (owner == seat)) (has_drawn before street seat) has) [
  | inl here ↦ or_left (on == street) (list_any (is_played_on street) before) (and_parts (on == street) (owner == seat) here).0
  | inr earlier ↦ or_right (on == street) (list_any (is_played_on street) before) (drawn_plays before street seat earlier)
]

drew_still : (setup : Setup) (before : Past) (event : Resolved) (street seat : ℕ) → street ≤ street_of event → DrewLive setup before street seat → DrewLive setup (event ∷ before) street seat
drew_still setup before event street seat on was = record { least = was.least; most = was.most; live = ap (λ l. is_live l seat) (before_same event before street on) ∙ was.live }

drew_now : (setup : Setup) (before : Past) (at : ℕ) (event : Resolved) (street seat : ℕ) → Reaches setup before at → AreOn (newest_street before) before → Stepped setup before at event → (has_drawn before street seat ≡ true → DrewLive setup before street seat) → has_drawn (event ∷ before) street seat ≡ true → DrewLive setup (event ∷ before) street seat
drew_now setup before at event street seat come on step earlier has = by_step event step has
  where
    reach : has_drawn before street seat ≡ true → street ≤ at
    reach it = omega (arith, played_on (newest_street before) street before on (drawn_plays before street seat it), come.on)

    by_step : (e : Resolved) → Stepped setup before at e → has_drawn (e ∷ before) street seat ≡ true → DrewLive setup (e ∷ before) street seat
    by_step _ (deals who cards due is some few free) it = drew_still setup before (Dealt at who cards) street seat (reach it) (earlier it)
    by_step _ (boards cards due some few free) it = drew_still setup before (Boarded at cards) street seat (reach it) (earlier it)
    by_step _ (shows who cards may free) it = drew_still setup before (Shown at who cards) street seat (reach it) (earlier it)
    by_step _ (mucks who may) it = drew_still setup before (Mucked at who) street seat (reach it) (earlier it)
    by_step _ (moves played no_deal no_draw same) it = drew_still setup before (Moved played) street seat (omega (arith, reach it, same)) (earlier it)
    by_step _ (discards who cards no_deal draw next few free held) it = elim (or_cases ((at == street) && (who == seat)) (has_drawn before street seat) it) [
      | inr before_it ↦ drew_still setup before (Discarded at who cards) street seat (reach before_it) (earlier before_it)
      | inl here ↦
          let parts = and_parts (at == street) (who == seat) here in
          let same : who ≡ seat = eqb-true who seat parts.1 in
          let it_is = is_next_to_draw setup before at who next in
          record { least = omega (arith, same, it_is.least); most = omega (arith, same, it_is.most); live = live_before (moves_of before) street seat (ap (is_live (moves_of before)) (sym same) ∙ it_is.live) }
    ]

-- who drew on a street was live when it began
pub drew_live : (setup : Setup) (rules : Rules) (events : List Said) → AreLegal setup rules events → (street seat : ℕ) → has_drawn (past_of setup events) street seat ≡ true → DrewLive setup (past_of setup events) street seat
unfolding with_event
drew_live setup rules [] legal street seat has = false_true has
drew_live setup rules (event ∷ events) legal street seat has =
    let before = past_of setup events in
    drew_now setup before (turn setup before).0 _ street seat (turn_reaches setup before (legal_past setup rules events legal.1).past.within) (legal_done setup rules events legal.1).are_on (stepped setup rules before event legal.0) (drew_live setup rules events legal.1 street seat) has

-- the places of the streets before a street, in the trace's order
abbrev pub finals_of : Setup → List Place → ℕ → List Place
finals_of setup placed count = flat_map (places_on setup placed) (range_with_len 1 count)

-- filters of pieces
pub filter_flat : {K : Type 0} (p : Place → Bool) (piece : K → List Place) (keys : List K) → filter p (flat_map piece keys) ≡ flat_map (λ key. filter p (piece key)) keys
filter_flat p piece [] = refl
filter_flat p piece (key ∷ rest) = filter-append p (piece key) (flat_map piece rest) ∙ ap (λ l. filter p (piece key) ++ l) (filter_flat p piece rest)

flat_same : {K : Type 0} (f g : K → List Place) (keys : List K) → ((key : K) → f key ≡ g key) → flat_map f keys ≡ flat_map g keys
flat_same f g [] same = refl
flat_same f g (key ∷ rest) same = ap (λ l. l ++ flat_map f rest) (same key) ∙ ap (λ l. g key ++ l) (flat_same f g rest same)

flat_none : {K : Type 0} (f : K → List Place) (keys : List K) → ((key : K) → f key ≡ []) → flat_map f keys ≡ []
flat_none f [] none = refl
flat_none f (key ∷ rest) none = ap (λ l. l ++ flat_map f rest) (none key) ∙ flat_none f rest none

all_pass : (p : Place → Bool) (places : List Place) → ((place : Place) → IsAmong places place → p place ≡ true) → filter p places ≡ places
all_pass p [] pass = refl
all_pass p (first ∷ rest) pass = ap (λ b. if b then (first ∷ filter p rest) else filter p rest) (pass first (inl refl)) ∙ ap (λ l. first ∷ l) (all_pass p rest (λ place among. pass place (inr among)))

group_group : (placed : List Place) (owner other : Option ℕ) (street at : ℕ) → filter (is_in_group owner street) (group_of placed at other) ≡ (if is_same_owner other owner && (at == street) then group_of placed street owner else [])
group_group placed owner other street at = by_same (is_same_owner other owner && (at == street)) refl
  where
    in_it : (place : Place) → Passed (is_in_group other at) placed place → is_in_group owner street place ≡ (is_same_owner other owner && (at == street))
    in_it place it =
        let parts = and_parts (is_same_owner place.owner other) (place.street == at) it.passes in
        ap (λ o. is_same_owner o owner && (place.street == street)) (is_same_owner-true place.owner other parts.0) ∙ ap (λ s. is_same_owner other owner && (s == street)) (eqb-true place.street at parts.1)

    by_same : (b : Bool) → (is_same_owner other owner && (at == street)) ≡ b → filter (is_in_group owner street) (group_of placed at other) ≡ (if b then group_of placed street owner else [])
    by_same false differ = none_pass (is_in_group owner street) (group_of placed at other) (λ place among. in_it place (passed (is_in_group other at) placed place among) ∙ differ)
    by_same true same =
        let parts = and_parts (is_same_owner other owner) (at == street) same in
        all_pass (is_in_group owner street) (group_of placed at other) (λ place among. in_it place (passed (is_in_group other at) placed place among) ∙ same)
        ∙ (ap (λ o. group_of placed at o) (is_same_owner-true other owner parts.0) ∙ ap (λ s. group_of placed s owner) (eqb-true at street parts.1))

-- among the owners of a street
abbrev piece_if : List Place → Option ℕ → ℕ → ℕ → Option ℕ → List Place
piece_if placed owner street at other = if is_same_owner other owner && (at == street) then group_of placed street owner else []

seats_hit : (placed : List Place) (seat street at start count : ℕ) → (at == street) ≡ true → start ≤ seat → seat < start + count → flat_map (piece_if placed (Some seat) street at) (map Some (range_with_len start count)) ≡ group_of placed street (Some seat)
seats_hit placed seat street at start zero on least most = absurd (omega (arith, least, most))
seats_hit placed seat street at start (suc count) on least most = elim (cases_eq start seat) [
  | inl same ↦
      ap (λ b. (if b then group_of placed street (Some seat) else []) ++ flat_map (piece_if placed (Some seat) street at) (map Some (range_with_len (start + 1) count))) (and_from (start == seat) (at == street) (eq-eqb start seat same) on)
      ∙ (ap (λ l. group_of placed street (Some seat) ++ l) (later_none (start + 1) count (omega (arith, same))) ∙ append-nil (group_of placed street (Some seat)))
  | inr differ ↦
      ap (λ b. (if b then group_of placed street (Some seat) else []) ++ flat_map (piece_if placed (Some seat) street at) (map Some (range_with_len (start + 1) count))) (and_left (start == seat) (at == street) (ne_eqb start seat differ))
      ∙ seats_hit placed seat street at (start + 1) count on (above differ) (omega (arith, most))
]
  where
    above : (start ≡ seat → ⊥) → start + 1 ≤ seat
    above differ = elim (cases_lt start seat) [ inl less ↦ omega (arith, less) | inr more ↦ absurd (differ (omega (arith, more, least))) ]

    later_none : (from n : ℕ) → seat < from → flat_map (piece_if placed (Some seat) street at) (map Some (range_with_len from n)) ≡ []
    later_none from zero less = refl
    later_none from (suc n) less =
        ap (λ b. (if b then group_of placed street (Some seat) else []) ++ flat_map (piece_if placed (Some seat) street at) (map Some (range_with_len (from + 1) n))) (and_left (from == seat) (at == street) (ne_eqb from seat (λ same. omega (arith, same, less))))
        ∙ later_none (from + 1) n (omega (arith, less))

flat_append : {K : Type 0} (f : K → List Place) (xs ys : List K) → flat_map f (xs ++ ys) ≡ flat_map f xs ++ flat_map f ys
flat_append f [] ys = refl
flat_append f (x ∷ xs) ys = ap (λ l. f x ++ l) (flat_append f xs ys) ∙ sym (append_assoc (f x) (flat_map f xs) (flat_map f ys))

seats_none : (placed : List Place) (street at : ℕ) (seats : List ℕ) → flat_map (piece_if placed None street at) (map Some seats) ≡ []
seats_none placed street at [] = refl
seats_none placed street at (seat ∷ rest) = seats_none placed street at rest

-- an owner of the hand: a seat or the board
pub data IsOwner (setup : Setup) : Option ℕ → Type 0 where
  a_seat : (seat : ℕ) → 1 ≤ seat → seat ≤ setup.stacks.seats → IsOwner setup (Some seat)
  the_board : IsOwner setup None

-- an owner's group is once among all owners'
pub owners_hit : (setup : Setup) (placed : List Place) (owner : Option ℕ) (street at : ℕ) → IsOwner setup owner → (at == street) ≡ true → flat_map (piece_if placed owner street at) (owners setup) ≡ group_of placed street owner
owners_hit setup placed _ street at (a_seat seat least most) on =
    flat_append (piece_if placed (Some seat) street at) (map Some (all_seats setup)) (None ∷ [])
    ∙ ap (λ l. l ++ (piece_if placed (Some seat) street at None ++ [])) (seats_hit placed seat street at 1 setup.stacks.seats on least (omega (arith, most)))
    ∙ append-nil (group_of placed street (Some seat))
owners_hit setup placed _ street at the_board on =
    flat_append (piece_if placed None street at) (map Some (all_seats setup)) (None ∷ [])
    ∙ ap (λ l. l ++ (piece_if placed None street at None ++ [])) (seats_none placed street at (all_seats setup))
    ∙ ap (λ b. (if b then group_of placed street None else []) ++ []) on
    ∙ append-nil (group_of placed street None)

owners_miss : (placed : List Place) (owner : Option ℕ) (street at : ℕ) (keys : List (Option ℕ)) → (at == street) ≡ false → flat_map (piece_if placed owner street at) keys ≡ []
owners_miss placed owner street at keys off = flat_none (piece_if placed owner street at) keys (λ other. ap (λ b. if b then group_of placed street owner else []) (and_right (is_same_owner other owner) (at == street) off))

-- one street
pub street_group : (setup : Setup) (placed : List Place) (owner : Option ℕ) (street at : ℕ) → filter (is_in_group owner street) (places_on setup placed at) ≡ flat_map (piece_if placed owner street at) (owners setup)
street_group setup placed owner street at =
    filter_flat (is_in_group owner street) (λ other. group_of placed at other) (owners setup)
    ∙ flat_same (λ other. filter (is_in_group owner street) (group_of placed at other)) (piece_if placed owner street at) (owners setup) (λ other. group_group placed owner other street at)

-- all streets
later_streets : (setup : Setup) (placed : List Place) (owner : Option ℕ) (street start count : ℕ) → street < start → filter (is_in_group owner street) (flat_map (places_on setup placed) (range_with_len start count)) ≡ []
later_streets setup placed owner street start count less =
    filter_flat (is_in_group owner street) (places_on setup placed) (range_with_len start count) ∙ none start count less
  where
    none : (from n : ℕ) → street < from → flat_map (λ at. filter (is_in_group owner street) (places_on setup placed at)) (range_with_len from n) ≡ []
    none from zero it = refl
    none from (suc n) it =
        ap (λ l. l ++ flat_map (λ at. filter (is_in_group owner street) (places_on setup placed at)) (range_with_len (from + 1) n))
        (street_group setup placed owner street from ∙ owners_miss placed owner street from (owners setup) (ne_eqb from street (λ same. omega (arith, same, it))))
        ∙ none (from + 1) n (omega (arith, it))

streets_hit : (setup : Setup) (placed : List Place) (owner : Option ℕ) (street start count : ℕ) → IsOwner setup owner → start ≤ street → street < start + count → flat_map (λ at. filter (is_in_group owner street) (places_on setup placed at)) (range_with_len start count) ≡ group_of placed street owner
streets_hit setup placed owner street start zero own least most = absurd (omega (arith, least, most))
streets_hit setup placed owner street start (suc count) own least most = elim (cases_eq start street) [
  | inl same ↦
      ap (λ l. l ++ flat_map (λ at. filter (is_in_group owner street) (places_on setup placed at)) (range_with_len (start + 1) count))
      (street_group setup placed owner street start ∙ owners_hit setup placed owner street start own (eq-eqb start street same))
      ∙ (ap (λ l. group_of placed street owner ++ l) (sym (filter_flat (is_in_group owner street) (places_on setup placed) (range_with_len (start + 1) count)) ∙ later_streets setup placed owner street (start + 1) count (omega (arith, same)))
      ∙ append-nil (group_of placed street owner))
  | inr differ ↦
      ap (λ l. l ++ flat_map (λ at. filter (is_in_group owner street) (places_on setup placed at)) (range_with_len (start + 1) count))
      (street_group setup placed owner street start ∙ owners_miss placed owner street start (owners setup) (ne_eqb start street differ))
      ∙ streets_hit setup placed owner street (start + 1) count own (above differ) (omega (arith, most))
]
  where
    above : (start ≡ street → ⊥) → start + 1 ≤ street
    above differ = elim (cases_lt start street) [ inl less ↦ omega (arith, less) | inr more ↦ absurd (differ (omega (arith, more, least))) ]

-- the group of an owner on a street, in the trace's order
pub finals_group : (setup : Setup) (placed : List Place) (owner : Option ℕ) (street count : ℕ) → IsOwner setup owner → 1 ≤ street → street ≤ count → filter (is_in_group owner street) (finals_of setup placed count) ≡ group_of placed street owner
finals_group setup placed owner street count own least most =
    filter_flat (is_in_group owner street) (places_on setup placed) (range_with_len 1 count) ∙ streets_hit setup placed owner street 1 count own least (omega (arith, most))

-- one more street
pub finals_more : (setup : Setup) (placed : List Place) (count : ℕ) → finals_of setup placed (suc count) ≡ finals_of setup placed count ++ places_on setup placed (1 + count)
finals_more setup placed count = flat_more (places_on setup placed) 1 count

-- the groups of one street: the seats' and the board's
flat_map_map : {K L : Type 0} (f : L → List Place) (g : K → L) (keys : List K) → flat_map f (map g keys) ≡ flat_map (λ key. f (g key)) keys
flat_map_map f g [] = refl
flat_map_map f g (key ∷ rest) = ap (λ l. f (g key) ++ l) (flat_map_map f g rest)

-- a street's places: those of each seat, and the board's
pub street_pieces : (setup : Setup) (placed : List Place) (street : ℕ) → places_on setup placed street ≡ flat_map (λ seat. group_of placed street (Some seat)) (all_seats setup) ++ group_of placed street None
street_pieces setup placed street =
    flat_append (λ owner. group_of placed street owner) (map Some (all_seats setup)) (None ∷ [])
    ∙ ap (λ l. l ++ (group_of placed street None ++ [])) (flat_map_map (λ owner. group_of placed street owner) Some (all_seats setup))
    ∙ ap (λ l. flat_map (λ seat. group_of placed street (Some seat)) (all_seats setup) ++ l) (append-nil (group_of placed street None))

-- a card of these is a card of the past, on one of the streets
pub record IsFinal (placed : List Place) (count : ℕ) (place : Place) : Type 0 where
  pub among : IsAmong placed place
  pub least : 1 ≤ place.street
  pub most : place.street ≤ count

-- a place of a street's groups was there, and is of this street
pub on_street_is : (setup : Setup) (placed : List Place) (street : ℕ) (keys : List (Option ℕ)) (place : Place) → IsAmong (flat_map (λ owner. group_of placed street owner) keys) place → IsAmong placed place × (place.street ≡ street)
on_street_is setup placed street [] place among = absurd among
on_street_is setup placed street (key ∷ rest) place among = elim (among_append (group_of placed street key) (flat_map (λ owner. group_of placed street owner) rest) place among) [
  | inl here ↦ let it = passed (is_in_group key street) placed place here in (it.among, eqb-true place.street street (and_parts (is_same_owner place.owner key) (place.street == street) it.passes).1)
  | inr later ↦ on_street_is setup placed street rest place later
]

-- a place of some streets was there, and is of one of these
pub finals_from : (setup : Setup) (placed : List Place) (start count : ℕ) (place : Place) → 1 ≤ start → IsAmong (flat_map (places_on setup placed) (range_with_len start count)) place → (IsAmong placed place) × ((start ≤ place.street) × (place.street < start + count))
finals_from setup placed start zero place some among = absurd among
finals_from setup placed start (suc count) place some among = elim (among_append (places_on setup placed start) (flat_map (places_on setup placed) (range_with_len (start + 1) count)) place among) [
  | inl here ↦ let it = on_street_is setup placed start (owners setup) place here in (it.0, (omega (arith, it.1), omega (arith, it.1)))
  | inr later ↦ let it = finals_from setup placed (start + 1) count place (omega arith) later in (it.0, (omega (arith, it.1.0), omega (arith, it.1.1)))
]

-- a place of the trace's order was there, and is of a street up to this one
pub is_final : (setup : Setup) (placed : List Place) (count : ℕ) (place : Place) → IsAmong (finals_of setup placed count) place → IsFinal placed count place
is_final setup placed count place among =
    let it = finals_from setup placed 1 count place (omega arith) among in record { among = it.0; least = it.1.0; most = omega (arith, it.1.1) }
