-- What a legal hand that is played to its end has of each street: all its cards if the hand reached
-- the street, and otherwise no cards and no moves.
use Rattle.std.proofs.Common.{◌≡◌, ℕ, zero, suc, ◌+◌, ◌≤◌, ◌&&◌, ◌==◌, Bool, true, false, cond, nat_lt, nat_le, List, [], ◌∷◌, length, Option, Some, None, filter, refl, sym, ap, subst, ◌∙◌, arith, ltb-false}
use Rattle.std.specs.List.{list_any}
use Rattle.std.proofs.lemmas.Bool.{and_parts, both_ways, false_from_ne_true, le-ltb, lt-leb, leb-false}
use Rattle.std.proofs.lemmas.List.{length-map}
use Rattle.canon_laws.proofs.StreetLists.{IsUnplayed, unplayed}
use Rattle.canon_laws.proofs.TraceOrder.{IsOwner, a_seat, the_board}
use Rattle.canon_laws.proofs.AllStreets.{legal_since, none_first}
use Rattle.canon_laws.proofs.StreetDeals.{group_is}
use Rattle.play_event.specs.CanonScript.{dealt_slots, is_dealt_to}
use Rattle.card_set.specs.Known.{hides_card}
use Rattle.card_set.proofs.Any.{list_any-filter, list_any-map}
use Rattle.card_set.proofs.Counting.{count_all, counts_fewer}
use Rattle.card_set.proofs.Finding.{none_stronger}
use Rattle.play_event.specs.declared.setup.Setup.{Setup}
use Rattle.play_event.specs.declared.setup.Rules.{Rules}
use Rattle.play_event.specs.Due.{is_unfinished, turn}
use Rattle.play_event.specs.Games.{board_cards_on, hole_cards_on, street_count}
use Rattle.play_event.specs.Laws.{AreLegal}
use Rattle.play_event.specs.Past.{Move, moves_before, moves_of, moves_on}
use Rattle.play_event.specs.Places.{is_same_owner, group_of}
use Rattle.play_event.specs.Said.{Said}
use Rattle.play_event.specs.Scripts.{past_of}
use Rattle.play_event.specs.Seats.{all_seats, is_live, live_count}
use Rattle.play_event.specs.Streets.{has_draw}
use Rattle.play_event.specs.Table.{places_of}
use Rattle.play_event.specs.Trace.{TracedPlace, traced_places}
use Rattle.play_laws.proofs.DoneKept.{live_before}
use Rattle.play_laws.proofs.DonePasts.{legal_done}
use Rattle.play_laws.proofs.LegalPlaces.{group_count, legal_past}
use Rattle.play_laws.proofs.PlayedStreets.{board_count, board_group, hole_group, reached_done}
use Rattle.play_laws.specs.PastLaws.{is_played_on}

-- a hand with one live seat does not reach a street
abbrev pub is_passed : Setup → List Move → ℕ → Bool
is_passed setup list street = nat_le (live_count setup (moves_before street list)) 1

-- what a hand has of a street
pub record HasStreet (setup : Setup) (events : List Said) (street : ℕ) : Type 0 where
  pub holes : (seat : ℕ) → 1 ≤ seat → seat ≤ setup.stacks.seats → length (dealt_slots (traced_places setup (past_of setup events)) (Some seat) street) ≤ hole_cards_on setup.code street
  pub board : is_passed setup (moves_of (past_of setup events)) street ≡ false → length (dealt_slots (traced_places setup (past_of setup events)) None street) ≡ board_cards_on setup.code street
  pub no_board : is_passed setup (moves_of (past_of setup events)) street ≡ true → length (dealt_slots (traced_places setup (past_of setup events)) None street) ≡ 0
  pub no_moves : is_passed setup (moves_of (past_of setup events)) street ≡ true → moves_on street (moves_of (past_of setup events)) ≡ []

slots_count : (setup : Setup) (events : List Said) (before : ℕ) (owner : Option ℕ) → before + 1 ≤ street_count setup.code → IsOwner setup owner
    → length (dealt_slots (traced_places setup (past_of setup events)) owner (before + 1)) ≡ length (group_of (places_of setup.code (past_of setup events)) (before + 1) owner)
slots_count setup events before owner last own =
    ap length (group_is setup events before owner last own)
    ∙ length-map (group_of (places_of setup.code (past_of setup events)) (before + 1) owner) (λ place. place.slot)

pub has_street : (setup : Setup) (rules : Rules) (events : List Said) (before : ℕ) → AreLegal setup rules events → is_unfinished (turn setup (past_of setup events)).1 ≡ false → ((street : ℕ) → has_draw setup.code street ≡ false) → before + 1 ≤ street_count setup.code → HasStreet setup events (before + 1)
has_street setup rules events before legal complete no_draw last =
    let past = past_of setup events in
    let street : ℕ = before + 1 in
    let done = (legal_done setup rules events legal).done in
    let law = (legal_past setup rules events legal).past in
    let quiet : is_passed setup (moves_of past) street ≡ true → IsUnplayed street past =
    λ over. unplayed street past (false_from_ne_true (list_any (is_played_on street) past) (λ some. both_ways (is_passed setup (moves_of past) street) (done.several street some) over)) in
    record {
      holes = λ seat low high. omega (arith, slots_count setup events before (Some seat) last (a_seat seat low high), group_count setup.code past street seat, done.dealt_most street seat (no_draw street));
      board = λ reached. slots_count setup events before None last the_board ∙ board_group setup past street done (reached_done setup past street law done complete (omega arith) last reached);
      no_board = λ over. omega (arith, slots_count setup events before None last the_board, board_count setup.code past street, (quiet over).board);
      no_moves = λ over. (quiet over).own;
    }

-- a hand reached its first street, on which each seat has all its cards
pub first_holes : (setup : Setup) (rules : Rules) (events : List Said) (seat : ℕ) → AreLegal setup rules events → is_unfinished (turn setup (past_of setup events)).1 ≡ false → has_draw setup.code 1 ≡ false → 1 ≤ street_count setup.code → 1 ≤ seat → seat ≤ setup.stacks.seats
    → length (dealt_slots (traced_places setup (past_of setup events)) (Some seat) 1) ≡ hole_cards_on setup.code 1
first_holes setup rules events seat legal complete no_draw last low high =
    let past = past_of setup events in
    let done = (legal_done setup rules events legal).done in
    let law = (legal_past setup rules events legal).past in
    let none : moves_before 1 (moves_of past) ≡ [] = none_first (moves_of past) (legal_since setup rules events legal) in
    let all : live_count setup [] ≡ setup.stacks.seats = count_all (is_live []) 1 setup.stacks.seats (λ k. refl) in
    let several : nat_le (live_count setup []) 1 ≡ false = lt-leb (live_count setup []) 1 (omega (arith, all, setup.stacks.least)) in
    let reached : is_passed setup (moves_of past) 1 ≡ false = ap (λ (list : List Move). nat_le (live_count setup list) 1) none ∙ several in
    let live : is_live (moves_before 1 (moves_of past)) seat ≡ true = ap (λ (list : List Move). is_live list seat) none in
    slots_count setup events 0 (Some seat) last (a_seat seat low high)
    ∙ hole_group setup past 1 seat done (reached_done setup past 1 law done complete (omega arith) last reached) no_draw (omega arith) low high live

-- moves before a street are among those before a later one
before_before : (early late : ℕ) (list : List Move) → early ≤ late → moves_before early (moves_before late list) ≡ moves_before early list
before_before early late [] order = refl
before_before early late (move ∷ rest) order = by_late (nat_lt move.street late) refl (before_before early late rest order)
  where
    by_late : (b : Bool) → nat_lt move.street late ≡ b → moves_before early (moves_before late rest) ≡ moves_before early rest → moves_before early (cond b (move ∷ moves_before late rest) (moves_before late rest)) ≡ moves_before early (move ∷ rest)
    by_late true is later = ap (λ (l : List Move). cond (nat_lt move.street early) (move ∷ l) l) later
    by_late false is later =
        later ∙ ap (λ b. cond b (move ∷ moves_before early rest) (moves_before early rest)) (sym (le-ltb move.street early (omega (arith, order, ltb-false move.street late is))))

-- a hand that reached a street reached those before it
pub came_before : (setup : Setup) (list : List Move) (early late : ℕ) → early ≤ late → is_passed setup list late ≡ false → is_passed setup list early ≡ false
came_before setup list early late order reached =
    let more = counts_fewer (is_live (moves_before late list)) (is_live (moves_before early (moves_before late list))) (live_before (moves_before late list) early) (all_seats setup) in
    let same : live_count setup (moves_before early (moves_before late list)) ≡ live_count setup (moves_before early list) = ap (live_count setup) (before_before early late list order) in
    lt-leb (live_count setup (moves_before early list)) 1 (omega (arith, more, same, leb-false (live_count setup (moves_before late list)) 1 reached))

-- each of four streets without draws
pub four_streets : (setup : Setup) (rules : Rules) (events : List Said) → AreLegal setup rules events → is_unfinished (turn setup (past_of setup events)).1 ≡ false → ((street : ℕ) → has_draw setup.code street ≡ false) → street_count setup.code ≡ 4
    → (street : ℕ) → 1 ≤ street → street ≤ 4 → HasStreet setup events street
four_streets setup rules events legal complete no_draw four zero low high = absurd (omega (arith, low))
four_streets setup rules events legal complete no_draw four (suc before) low high =
    subst (HasStreet setup events) (next before) (has_street setup rules events before legal complete no_draw (omega (arith, high, four)))
  where
    next : (n : ℕ) → n + 1 ≡ suc n
    next n = omega arith

-- the cards of a tidy board are known
pub board_known : (placed : List TracedPlace) (street : ℕ) → list_any (λ place. is_same_owner place.owner None && hides_card place.slot) placed ≡ false → list_any hides_card (dealt_slots placed None street) ≡ false
board_known placed street known =
    list_any-map hides_card (λ (place : TracedPlace). place.slot) (filter (is_dealt_to None street) placed)
    ∙ list_any-filter (λ (place : TracedPlace). hides_card place.slot) (is_dealt_to None street) placed
    ∙ none_stronger (λ (place : TracedPlace). is_dealt_to None street place && hides_card place.slot) (λ (place : TracedPlace). is_same_owner place.owner None && hides_card place.slot) weaker placed known
  where
    weaker : (place : TracedPlace) → (is_dealt_to None street place && hides_card place.slot) ≡ true → (is_same_owner place.owner None && hides_card place.slot) ≡ true
    weaker place both =
        let outer = and_parts (is_dealt_to None street place) (hides_card place.slot) both in
        let inner = and_parts (is_same_owner place.owner None) (place.street == street) outer.0 in
        rw (inner.0, outer.1) refl

-- a street has no more cards of the board than the game deals on it
pub few_on_board : (setup : Setup) (events : List Said) (street : ℕ) → HasStreet setup events street → (passed : Bool) → is_passed setup (moves_of (past_of setup events)) street ≡ passed
    → length (dealt_slots (traced_places setup (past_of setup events)) None street) ≤ board_cards_on setup.code street
few_on_board setup events street has true is = omega (arith, has.no_board is)
few_on_board setup events street has false is = omega (arith, has.board is)
