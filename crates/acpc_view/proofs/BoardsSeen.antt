-- The boards that a trace has before a move are those of its rounds that have begun.
use Rattle.std.proofs.Common.{◌≡◌, ◌+◌, ◌-◌, ◌≤◌, ℕ, suc, Bool, true, false, ◌&&◌, ◌||◌, nat_le, nat_lt, if◌then◌else◌, cond, List, [], ◌∷◌, ◌++◌, filter, length, map, slice_get, Option, Some, None, refl, sym, ap, subst, ◌∙◌, append_assoc, arith}
use Rattle.std.specs.List.{list_any}
use Rattle.std.specs.Option.{option_map_or}
use Rattle.std.proofs.lemmas.List.{append-nil, length-map}
use Rattle.std.proofs.lemmas.Bool.{lt-ltb}
use Rattle.card_set.proofs.Tests.{false_true}
use Rattle.play_event.specs.declared.setup.Rules.{Rules}
use Rattle.play_event.specs.declared.setup.Setup.{Setup}
use Rattle.play_event.specs.Dealing.{board_cards_dealt}
use Rattle.play_event.specs.Due.{turn}
use Rattle.play_event.specs.Games.{street_count}
use Rattle.play_event.specs.Laws.{AreLegal}
use Rattle.play_event.specs.Past.{Past, Resolved, Dealt, Boarded, Moved, Discarded, Shown, Mucked, moves_of, street_of}
use Rattle.play_event.specs.Places.{Place, is_in_group}
use Rattle.play_event.specs.Said as said
use Rattle.play_event.specs.Said.{Said}
use Rattle.play_event.specs.Scripts.{past_of, resolved_on, with_event}
use Rattle.play_event.specs.Table.{places_of}
use Rattle.play_event.specs.Trace.{TracedMove, TracedPlace, traced_move, traced_moves, traced_places}
use Rattle.play_laws.proofs.PlayedStreets.{board_count}
use Rattle.play_event.proofs.TracedMoves.{as_many}
use Rattle.play_laws.specs.CardEvents.{is_card_event, is_card_said}
use Rattle.play_laws.proofs.LegalCards.{at_street}
use Rattle.play_event.specs.CanonScript.{dealt_slots, is_dealt_to}
use Rattle.canon_laws.proofs.TraceOrder.{the_board}
use Rattle.canon_laws.proofs.StreetDeals.{group_is}
use Rattle.acpc_format.specs.Rounds.{has_board}
use Rattle.acpc_view.specs.View.{has_begun}
use Rattle.acpc_view.proofs.Boards.{boards_before}

-- a board is there if it has cards
one_there : (place : TracedPlace) (rest : List TracedPlace) (tests : TracedPlace → Bool) (here : Bool) → list_any tests rest ≡ nat_lt 0 (length (map (λ (p : TracedPlace). p.slot) (filter tests rest)))
    → (here || list_any tests rest) ≡ nat_lt 0 (length (map (λ (p : TracedPlace). p.slot) (cond here (place ∷ filter tests rest) (filter tests rest))))
one_there place rest tests true before = sym (lt-ltb 0 (suc (length (map (λ (p : TracedPlace). p.slot) (filter tests rest)))) (omega arith))
one_there place rest tests false before = before

there_by : (tests : TracedPlace → Bool) (placed : List TracedPlace) → list_any tests placed ≡ nat_lt 0 (length (map (λ (p : TracedPlace). p.slot) (filter tests placed)))
there_by tests [] = refl
there_by tests (place ∷ rest) = one_there place rest tests (tests place) (there_by tests rest)

-- the number of cards that a trace has of the board of a street
traced_board : (setup : Setup) (events : List Said) (street : ℕ) → 1 ≤ street → street ≤ street_count setup.code → length (dealt_slots (traced_places setup (past_of setup events)) None street) ≡ board_cards_dealt (past_of setup events) street
traced_board setup events street one last =
    let same : street - 1 + 1 ≡ street = omega (arith, one) in
    let placed = places_of setup.code (past_of setup events) in
    subst (λ (n : ℕ). length (dealt_slots (traced_places setup (past_of setup events)) None n) ≡ board_cards_dealt (past_of setup events) n) same
    (ap length (group_is setup events (street - 1) None (omega (arith, one, last)) the_board)
    ∙ length-map (filter (is_in_group None (street - 1 + 1)) placed) (λ (p : Place). p.slot)
    ∙ board_count setup.code (past_of setup events) (street - 1 + 1))

has_board_is : (setup : Setup) (events : List Said) (street : ℕ) → 1 ≤ street → street ≤ street_count setup.code → has_board (traced_places setup (past_of setup events)) street ≡ nat_lt 0 (board_cards_dealt (past_of setup events) street)
has_board_is setup events street one last =
    there_by (is_dealt_to None street) (traced_places setup (past_of setup events)) ∙ ap (nat_lt 0) (traced_board setup events street one last)

-- the moves of a trace are those so far and some more
record HasMore (all so_far : List TracedMove) : Type 0 where
  more : List TracedMove
  are : all ≡ so_far ++ more

one_event : (setup : Setup) (event : Resolved) (past : Past) → HasMore (traced_moves setup (moves_of (event ∷ past))) (traced_moves setup (moves_of past))
one_event setup (Moved move) past = record { more = traced_move setup move (moves_of past) ∷ []; are = refl }
one_event setup (Dealt on seat cards) past = record { more = []; are = sym (append-nil (traced_moves setup (moves_of past))) }
one_event setup (Boarded on cards) past = record { more = []; are = sym (append-nil (traced_moves setup (moves_of past))) }
one_event setup (Discarded on seat cards) past = record { more = []; are = sym (append-nil (traced_moves setup (moves_of past))) }
one_event setup (Shown on seat cards) past = record { more = []; are = sym (append-nil (traced_moves setup (moves_of past))) }
one_event setup (Mucked on seat) past = record { more = []; are = sym (append-nil (traced_moves setup (moves_of past))) }

said_event : (setup : Setup) (event : Said) (past : Past) → HasMore (traced_moves setup (moves_of (with_event setup event past))) (traced_moves setup (moves_of past))
unfolding with_event
said_event setup event past = one_event setup (resolved_on setup past (turn setup past).0 event) past

moves_more : (setup : Setup) (later events : List Said) → HasMore (traced_moves setup (moves_of (past_of setup (later ++ events)))) (traced_moves setup (moves_of (past_of setup events)))
moves_more setup [] events = record { more = []; are = sym (append-nil (traced_moves setup (moves_of (past_of setup events)))) }
moves_more setup (event ∷ later) events =
    let first = moves_more setup later events in
    let last = said_event setup event (past_of setup (later ++ events)) in
    record {
      more = first.more ++ last.more;
      are = last.are ∙ ap (λ (ms : List TracedMove). ms ++ last.more) first.are ∙ append_assoc (traced_moves setup (moves_of (past_of setup events))) first.more last.more;
    }

-- a move follows those before it, on its street
record IsMade (setup : Setup) (past : Past) (event : Resolved) : Type 0 where
  move : TracedMove
  made : traced_moves setup (moves_of (event ∷ past)) ≡ traced_moves setup (moves_of past) ++ move ∷ []
  on : move.street ≡ street_of event

is_made : (setup : Setup) (past : Past) (event : Resolved) → is_card_event event ≡ false → IsMade setup past event
is_made setup past (Moved move) bet = record { move = traced_move setup move (moves_of past); made = refl; on = refl }
is_made setup past (Dealt on seat cards) bet = false_true (sym bet)
is_made setup past (Boarded on cards) bet = false_true (sym bet)
is_made setup past (Discarded on seat cards) bet = false_true (sym bet)
is_made setup past (Shown on seat cards) bet = false_true (sym bet)
is_made setup past (Mucked on seat) bet = false_true (sym bet)

move_resolved : (setup : Setup) (past : Past) (street : ℕ) (event : Said) → is_card_said event ≡ false → is_card_event (resolved_on setup past street event) ≡ false
move_resolved setup past street (said.Fold named) bet = refl
move_resolved setup past street (said.Call named stated) bet = refl
move_resolved setup past street (said.Raise named amount) bet = refl
move_resolved setup past street (said.BringIn named) bet = refl
move_resolved setup past street (said.Hole seat cards) bet = false_true (sym bet)
move_resolved setup past street (said.Board cards) bet = false_true (sym bet)
move_resolved setup past street (said.Discard seat cards) bet = false_true (sym bet)
move_resolved setup past street (said.Show seat cards) bet = false_true (sym bet)
move_resolved setup past street (said.Muck seat) bet = false_true (sym bet)

-- what is at the place of a move
item_at : (before : List TracedMove) (move : TracedMove) (more : List TracedMove) → slice_get (before ++ move ∷ more) (length before) ≡ Some move
item_at [] move more = refl
item_at (first ∷ before) move more = item_at before move more

-- a move of the trace at its place
record IsAt (all : List TracedMove) (index street : ℕ) : Type 0 where
  move : TracedMove
  here : slice_get all index ≡ Some move
  on : move.street ≡ street

move_at : (setup : Setup) (later events : List Said) (event : Said) → is_card_said event ≡ false → IsAt (traced_moves setup (moves_of (past_of setup (later ++ event ∷ events)))) (length (moves_of (past_of setup events))) (turn setup (past_of setup events)).0
unfolding with_event
move_at setup later events event bet =
    let past = past_of setup events in
    let street = (turn setup past).0 in
    let before = traced_moves setup (moves_of past) in
    let made = is_made setup past (resolved_on setup past street event) (move_resolved setup past street event bet) in
    let after = moves_more setup later (event ∷ events) in
    record {
      move = made.move;
      here = ap (λ (ms : List TracedMove). slice_get ms (length (moves_of past))) (after.are ∙ ap (λ (ms : List TracedMove). ms ++ after.more) made.made ∙ append_assoc before (made.move ∷ []) after.more)
          ∙ ap (slice_get (before ++ made.move ∷ after.more)) (sym (as_many setup (moves_of past)))
          ∙ item_at before made.move after.more;
      on = made.on ∙ at_street setup past street event;
    }

begun_by : (begun : Bool) (all : ℕ) → nat_lt 0 (if begun then all else 0) ≡ (begun && nat_lt 0 all)
begun_by true all = refl
begun_by false all = refl

-- a board is there before a move if and only if its round has begun and the trace has it
pub boards_seen : (setup : Setup) (rules : Rules) (later events : List Said) (event : Said) → AreLegal setup rules (later ++ event ∷ events) → is_card_said event ≡ false → (street : ℕ) → 1 ≤ street → street ≤ street_count setup.code
    → has_board (traced_places setup (past_of setup events)) street
    ≡ (has_begun (traced_moves setup (moves_of (past_of setup (later ++ event ∷ events)))) (length (moves_of (past_of setup events))) street && has_board (traced_places setup (past_of setup (later ++ event ∷ events))) street)
boards_seen setup rules later events event legal bet street one last =
    let all = later ++ event ∷ events in
    let at = move_at setup later events event bet in
    let begun : has_begun (traced_moves setup (moves_of (past_of setup all))) (length (moves_of (past_of setup events))) street ≡ nat_le street (turn setup (past_of setup events)).0 =
    ap (λ (found : Option TracedMove). option_map_or (λ (move : TracedMove). nat_le street move.street) found true) at.here ∙ ap (nat_le street) at.on in
    has_board_is setup events street one last
    ∙ ap (nat_lt 0) (boards_before setup rules later events event legal bet street one)
    ∙ begun_by (nat_le street (turn setup (past_of setup events)).0) (board_cards_dealt (past_of setup all) street)
    ∙ ap (λ (b : Bool). b && nat_lt 0 (board_cards_dealt (past_of setup all) street)) (sym begun)
    ∙ ap (λ (b : Bool). has_begun (traced_moves setup (moves_of (past_of setup all))) (length (moves_of (past_of setup events))) street && b) (sym (has_board_is setup all street one last))
