-- For hands with the same setup and moves that are played to their end, neither list of dealt cards
-- is the beginning of the other: how many cards an owner has of a street follows from the moves and
-- from the discards on earlier streets.
use Rattle.std.proofs.Common.{◌≡◌, ℕ, zero, suc, ◌+◌, ◌≤◌, ◌<◌, Bool, true, false, ◌==◌, nat_le, inl, inr, List, [], ◌∷◌, ◌++◌, map, filter, length, Option, Some, None, refl, sym, ap, subst, ◌∙◌, arith, if◌then◌else◌}
use Rattle.std.specs.List.{AllByRecursion, flat_map, list_any, range_with_len}
use Rattle.std.proofs.lemmas.Bool.{and_from, and_right, both_ways, eq-eqb, false_from_ne_true, ne_eqb}
use Rattle.std.proofs.lemmas.List.{append-nil, length-append, length-map}
use Rattle.std.proofs.lemmas.List.Elements.{filter-append}
use Rattle.canon_laws.proofs.StreetLists.{IsUnplayed, unplayed}
use Rattle.canon_laws.proofs.TraceOrder.{IsOwner, a_seat, finals_from, finals_group, finals_of, is_final, on_street_is, the_board}
use Rattle.canon_laws.proofs.TraceOrderCounts.{legal_owned}
use Rattle.canon_laws.proofs.TracedSlots.{dealt_same, discarded_same}
use Rattle.canon_laws.proofs.StreetDiscards.{out_finals}
use Rattle.play_event.specs.CanonScript.{dealt_slots, discarded_slots, is_dealt_to, is_discard_of}
use Rattle.card_set.specs.declared.card.Slot.{Slot}
use Rattle.play_event.proofs.ClashLaws.{among_append}
use Rattle.play_event.proofs.OwnerLaws.{is_same_owner-self}
use Rattle.play_event.specs.Games.{board_cards_on, hole_cards_on, street_count}
use Rattle.play_event.specs.Laws.{AreLegal, IsAmong}
use Rattle.play_event.specs.Past.{Move, Past, moves_before, moves_of}
use Rattle.play_event.specs.Places.{Place, group_of, is_same_owner}
use Rattle.play_event.specs.Said.{Said}
use Rattle.play_event.specs.Scripts.{past_of}
use Rattle.play_event.specs.Seats.{is_live, live_count}
use Rattle.play_event.specs.Streets.{has_draw}
use Rattle.play_event.specs.Table.{places_of}
use Rattle.play_event.specs.Trace.{TracedPlace, owners, places_on, traced_place, traced_places}
use Rattle.play_event.specs.declared.setup.Rules.{Rules}
use Rattle.play_event.specs.declared.setup.Setup.{Setup}
use Rattle.play_laws.proofs.DiscardCounts.{is_out_of, out_counts}
use Rattle.play_laws.proofs.DonePasts.{legal_done}
use Rattle.play_laws.proofs.LegalPlaces.{group_count, legal_past}
use Rattle.play_laws.proofs.PlayedStreets.{IsDone, board_count, board_group, draw_group, folded_group, hole_group, reached_done}
use Rattle.play_laws.specs.PastLaws.{is_played_on}
use Rattle.hand_differences.proofs.NoFurtherMoves.{HasEnded}

-- ---- how many cards an owner has of a street

-- how many hole cards of a street a seat has, depending on whether it was live when the street
-- began: on a street that draws, as many as it discarded there
pub holes_of : Setup → ℕ → (live : Bool) → (out : ℕ) → ℕ
holes_of setup street live out =
    if live then (if has_draw setup.code street then out else hole_cards_on setup.code street) else 0

-- how many cards of a street an owner has, if the hand came to the street
pub cards_of : Setup → List Move → ℕ → Option ℕ → (out : ℕ → ℕ) → ℕ
cards_of setup moves street None out = board_cards_on setup.code street
cards_of setup moves street (Some seat) out = holes_of setup street (is_live (moves_before street moves) seat) (out seat)

-- and of any street
pub cards_if : Setup → List Move → ℕ → Option ℕ → (out : ℕ → ℕ) → ℕ
cards_if setup moves street owner out =
    if nat_le (live_count setup (moves_before street moves)) 1 then 0 else cards_of setup moves street owner out

-- the cards that a seat discarded on a street
pub outs : Setup → Past → ℕ → ℕ → ℕ
outs setup past street seat = length (filter (is_out_of street seat) (places_of setup.code past))

module _ (setup : Setup) (rules : Rules) (events : List Said) (ended : HasEnded setup rules events) (street : ℕ) (some : 1 ≤ street) (most : street ≤ street_count setup.code) where
  no_cards : (owner : Option ℕ) → IsOwner setup owner → nat_le (live_count setup (moves_before street (moves_of (past_of setup events)))) 1 ≡ true → length (group_of (places_of setup.code (past_of setup events)) street owner) ≡ 0
  no_cards owner own over = by_owner owner own it
    where
      it : IsUnplayed street (past_of setup events)
      it =
          unplayed street (past_of setup events) (false_from_ne_true (list_any (is_played_on street) (past_of setup events)) (λ played.
          both_ways (nat_le (live_count setup (moves_before street (moves_of (past_of setup events)))) 1) ((legal_done setup rules events ended.legal).done.several street played) over))

      by_owner : (owner : Option ℕ) → IsOwner setup owner → IsUnplayed street (past_of setup events) → length (group_of (places_of setup.code (past_of setup events)) street owner) ≡ 0
      by_owner _ (a_seat seat least last) it = group_count setup.code (past_of setup events) street seat ∙ it.holes seat
      by_owner _ the_board it = board_count setup.code (past_of setup events) street ∙ it.board

  seat_cards : (seat : ℕ) → 1 ≤ seat → seat ≤ setup.stacks.seats → IsDone setup (past_of setup events) street → (live draws : Bool) → is_live (moves_before street (moves_of (past_of setup events))) seat ≡ live → has_draw setup.code street ≡ draws
      → length (group_of (places_of setup.code (past_of setup events)) street (Some seat)) ≡ (if live then (if draws then outs setup (past_of setup events) street seat else hole_cards_on setup.code street) else 0)
  unfolding outs
  seat_cards seat least last done false draws live_is draws_is = folded_group setup (past_of setup events) street seat (legal_past setup rules events ended.legal).places live_is
  seat_cards seat least last done true true live_is draws_is =
      draw_group setup (past_of setup events) street seat (legal_past setup rules events ended.legal).past done (out_counts setup rules events ended.legal) draws_is some least last
  seat_cards seat least last done true false live_is draws_is =
      hole_group setup (past_of setup events) street seat (legal_done setup rules events ended.legal).done done draws_is some least last live_is

  owner_cards : (owner : Option ℕ) → IsOwner setup owner → IsDone setup (past_of setup events) street → length (group_of (places_of setup.code (past_of setup events)) street owner) ≡ cards_of setup (moves_of (past_of setup events)) street owner (outs setup (past_of setup events) street)
  unfolding cards_of holes_of
  owner_cards _ the_board done = board_group setup (past_of setup events) street (legal_done setup rules events ended.legal).done done
  owner_cards _ (a_seat seat least last) done = seat_cards seat least last done (is_live (moves_before street (moves_of (past_of setup events))) seat) (has_draw setup.code street) refl refl

  all_cards : (owner : Option ℕ) → IsOwner setup owner → (over : Bool) → nat_le (live_count setup (moves_before street (moves_of (past_of setup events)))) 1 ≡ over
      → length (group_of (places_of setup.code (past_of setup events)) street owner) ≡ (if over then 0 else cards_of setup (moves_of (past_of setup events)) street owner (outs setup (past_of setup events) street))
  all_cards owner own true over = no_cards owner own over
  all_cards owner own false came =
      owner_cards owner own (reached_done setup (past_of setup events) street (legal_past setup rules events ended.legal).past (legal_done setup rules events ended.legal).done ended.finished some most came)

  -- the cards of an owner, as the trace has them
  pub cards_traced : (owner : Option ℕ) → IsOwner setup owner → length (dealt_slots (traced_places setup (past_of setup events)) owner street) ≡ cards_if setup (moves_of (past_of setup events)) street owner (outs setup (past_of setup events) street)
  unfolding cards_if
  cards_traced owner own =
      let placed : List Place = places_of setup.code (past_of setup events) in
      ap (λ (l : List Slot). length l) (dealt_same (finals_of setup placed (street_count setup.code)) owner street ∙ ap (map (λ (p : Place). p.slot)) (finals_group setup placed owner street (street_count setup.code) own some most))
      ∙ length-map (group_of placed street owner) (λ (p : Place). p.slot)
      ∙ all_cards owner own (nat_le (live_count setup (moves_before street (moves_of (past_of setup events)))) 1) refl

  -- and what a seat discarded
  pub outs_traced : (seat : ℕ) → 1 ≤ seat → seat ≤ setup.stacks.seats → length (discarded_slots (traced_places setup (past_of setup events)) seat street) ≡ outs setup (past_of setup events) street seat
  unfolding outs
  outs_traced seat least last =
      let placed : List Place = places_of setup.code (past_of setup events) in
      ap (λ (l : List Slot). length l) (discarded_same (finals_of setup placed (street_count setup.code)) seat street)
      ∙ length-map (filter (is_out_of street seat) (finals_of setup placed (street_count setup.code))) (λ (p : Place). p.slot)
      ∙ ap (λ (l : List Place). length l) (out_finals setup rules events street seat (street_count setup.code) ended.legal some (omega (arith, most)) least last)

-- ---- the dealt cards of a trace, in its order

-- a dealt card of a trace: its owner and street are of the hand, and if it was discarded, it was
-- after its street
record IsTraced (setup : Setup) (place : TracedPlace) : Type 0 where
  owned : IsOwner setup place.owner
  since : 1 ≤ place.street
  within : place.street ≤ street_count setup.code
  out_after : 0 < place.discarded → place.street < place.discarded

-- each dealt card is of the street of those after it or of an earlier one
abbrev AreRisingStreets : List TracedPlace → Type 0
AreRisingStreets [] = Unit {0}
AreRisingStreets (place ∷ rest) = AllByRecursion (λ (other : TracedPlace). place.street ≤ other.street) rest × AreRisingStreets rest

each_traced : (P : TracedPlace → Type 0) (places : List Place) → ((place : Place) → IsAmong places place → P (traced_place place)) → AllByRecursion P (map traced_place places)
each_traced P [] each = tt
each_traced P (place ∷ rest) each = (each place (inl refl), each_traced P rest (λ other among. each other (inr among)))

rising_traced : (first : List Place) (rest : List Place) (street : ℕ) → ((place : Place) → IsAmong first place → place.street ≡ street) → ((place : Place) → IsAmong rest place → street ≤ place.street) → AreRisingStreets (map traced_place rest) → AreRisingStreets (map traced_place (first ++ rest))
rising_traced [] rest street here later rising = rising
rising_traced (place ∷ first) rest street here later rising = (
  each_traced (λ (other : TracedPlace). place.street ≤ other.street) (first ++ rest) (λ other among. elim (among_append first rest other among) [
    | inl near ↦ omega (arith, here place (inl refl), here other (inr near))
    | inr far ↦ omega (arith, here place (inl refl), later other far)
  ]),
  rising_traced first rest street (λ other among. here other (inr among)) later rising,
)

rising_streets : (setup : Setup) (placed : List Place) (start count : ℕ) → 1 ≤ start → AreRisingStreets (map traced_place (flat_map (places_on setup placed) (range_with_len start count)))
rising_streets setup placed start zero some = tt
rising_streets setup placed start (suc count) some =
    rising_traced (places_on setup placed start) (flat_map (places_on setup placed) (range_with_len (start + 1) count)) start
    (λ place among. (on_street_is setup placed start (owners setup) place among).1)
    (λ place among. let it = finals_from setup placed (start + 1) count place (omega arith) among in omega (arith, it.1.0))
    (rising_streets setup placed (start + 1) count (omega arith))

-- what holds for all holds for those after the first ones
behind : (P : TracedPlace → Type 0) (front rest : List TracedPlace) → AllByRecursion P (front ++ rest) → AllByRecursion P rest
behind P [] rest all = all
behind P (place ∷ front) rest all = behind P front rest all.1

rising_behind : (front rest : List TracedPlace) → AreRisingStreets (front ++ rest) → AreRisingStreets rest
rising_behind [] rest rising = rising
rising_behind (place ∷ front) rest rising = rising_behind front rest rising.1

-- none of these was discarded on a street that is no later than theirs
none_out : (setup : Setup) (street seat : ℕ) (places : List TracedPlace) → 1 ≤ street → AllByRecursion (IsTraced setup) places → AllByRecursion (λ (place : TracedPlace). street ≤ place.street) places → filter (is_discard_of seat street) places ≡ []
none_out setup street seat [] some traced late = refl
none_out setup street seat (place ∷ rest) some traced late =
    let other : (place.discarded == street) ≡ false = ne_eqb place.discarded street (λ same. omega (arith, some, same, late.0, traced.0.out_after (omega (arith, some, same)))) in
    ap (λ b. if b then (place ∷ filter (is_discard_of seat street) rest) else filter (is_discard_of seat street) rest) (and_right (is_same_owner place.owner (Some seat)) (place.discarded == street) other)
    ∙ none_out setup street seat rest some traced.1 late.1

-- ---- no further dealt card

all_traced : (setup : Setup) (rules : Rules) (events : List Said) → AreLegal setup rules events → AllByRecursion (IsTraced setup) (traced_places setup (past_of setup events))
all_traced setup rules events legal =
    let placed : List Place = places_of setup.code (past_of setup events) in
    each_traced (IsTraced setup) (finals_of setup placed (street_count setup.code)) (λ place among.
    let it = is_final setup placed (street_count setup.code) place among in
    record { owned = legal_owned setup rules events legal place it.among; since = it.least; within = it.most; out_after = (legal_past setup rules events legal).places.out_after place it.among })

-- by how much a list is longer than its beginning
longer : {A B : Type 0} (f : A → B) (p : A → Bool) (front : List A) (first : A) (rest : List A) → p first ≡ true → length (map f (filter p (front ++ first ∷ rest))) ≡ length (map f (filter p front)) → ⊥
longer f p front first rest passes same =
    let split : filter p (front ++ first ∷ rest) ≡ filter p front ++ (first ∷ filter p rest) =
    filter-append p front (first ∷ rest) ∙ ap (λ b. filter p front ++ (if b then (first ∷ filter p rest) else filter p rest)) passes in
    omega (arith, same, length-map (filter p (front ++ first ∷ rest)) f, length-map (filter p front) f, ap (λ l. length l) split, length-append (filter p front) (first ∷ filter p rest))

-- the dealt cards that a trace has after those of another are none
pub no_more_places : (setup : Setup) (rules others : Rules) (events later : List Said) (rest : List TracedPlace) → HasEnded setup rules events → HasEnded setup others later → moves_of (past_of setup events) ≡ moves_of (past_of setup later)
    → traced_places setup (past_of setup later) ≡ traced_places setup (past_of setup events) ++ rest → rest ≡ []
unfolding cards_if cards_of
no_more_places setup rules others events later [] ended too moves is = refl
no_more_places setup rules others events later (place ∷ rest) ended too moves is = absurd (
    longer (λ (p : TracedPlace). p.slot) (is_dealt_to place.owner place.street) front place rest
    (and_from (is_same_owner place.owner place.owner) (place.street == place.street) (is_same_owner-self place.owner) (eq-eqb place.street place.street refl))
    (ap (λ (l : List TracedPlace). length (dealt_slots l place.owner place.street)) (sym is)
    ∙ cards_traced setup others later too place.street traced.0.since traced.0.within place.owner traced.0.owned
    ∙ same_cards place.owner traced.0.owned
    ∙ sym (cards_traced setup rules events ended place.street traced.0.since traced.0.within place.owner traced.0.owned))
    )
  where
    front : List TracedPlace
    front = traced_places setup (past_of setup events)

    traced : AllByRecursion (IsTraced setup) (place ∷ rest)
    traced = let P : List TracedPlace → Type 0 = AllByRecursion (IsTraced setup) in behind (IsTraced setup) (traced_places setup (past_of setup events)) (place ∷ rest) (subst P is (all_traced setup others later too.legal))

    rising : AreRisingStreets (place ∷ rest)
    rising =
        let P : List TracedPlace → Type 0 = AreRisingStreets in
        rising_behind (traced_places setup (past_of setup events)) (place ∷ rest) (subst P is (rising_streets setup (places_of setup.code (past_of setup later)) 1 (street_count setup.code) (omega arith)))

    no_outs : (seat : ℕ) → filter (is_discard_of seat place.street) (place ∷ rest) ≡ []
    no_outs seat = none_out setup place.street seat (place ∷ rest) traced.0.since traced (omega arith, rising.0)

    same_outs : (seat : ℕ) → 1 ≤ seat → seat ≤ setup.stacks.seats → outs setup (past_of setup later) place.street seat ≡ outs setup (past_of setup events) place.street seat
    same_outs seat least last =
        sym (outs_traced setup others later too place.street traced.0.since traced.0.within seat least last)
        ∙ ap (λ (l : List TracedPlace). length (discarded_slots l seat place.street)) is
        ∙ ap (λ (l : List TracedPlace). length (map (λ (p : TracedPlace). p.slot) l)) (filter-append (is_discard_of seat place.street) (traced_places setup (past_of setup events)) (place ∷ rest) ∙ ap (λ l. filter (is_discard_of seat place.street) (traced_places setup (past_of setup events)) ++ l) (no_outs seat) ∙ append-nil (filter (is_discard_of seat place.street) (traced_places setup (past_of setup events))))
        ∙ outs_traced setup rules events ended place.street traced.0.since traced.0.within seat least last

    same_cards : (owner : Option ℕ) → IsOwner setup owner → cards_if setup (moves_of (past_of setup later)) place.street owner (outs setup (past_of setup later) place.street) ≡ cards_if setup (moves_of (past_of setup events)) place.street owner (outs setup (past_of setup events) place.street)
    same_cards _ the_board = ap (λ (l : List Move). if nat_le (live_count setup (moves_before place.street l)) 1 then 0 else board_cards_on setup.code place.street) (sym moves)
    same_cards _ (a_seat seat least last) =
        ap (λ (l : List Move). if nat_le (live_count setup (moves_before place.street l)) 1 then 0 else holes_of setup place.street (is_live (moves_before place.street l) seat) (outs setup (past_of setup later) place.street seat)) (sym moves)
        ∙ ap (λ (n : ℕ). if nat_le (live_count setup (moves_before place.street (moves_of (past_of setup events)))) 1 then 0 else holes_of setup place.street (is_live (moves_before place.street (moves_of (past_of setup events))) seat) n) (same_outs seat least last)
