-- The past after each event of a script, and what the next event adds to it.
use Rattle.std.proofs.Common.{◌≡◌, ℕ, zero, suc, ◌≤◌, Bool, true, false, List, [], ◌∷◌, ◌++◌, length, take, drop, reverse, map, refl, sym, ap, ◌∙◌, append_assoc, arith}
use Rattle.std.proofs.lemmas.List.{reverse-append}
use Rattle.play_event.specs.PlayedScript.{is_move_event}
use Rattle.play_event.specs.Laws.{AreLegal}
use Rattle.play_event.specs.Past as past
use Rattle.play_event.specs.Past.{Move, Past, Resolved, moves_of}
use Rattle.play_event.specs.Said as said
use Rattle.play_event.specs.Said.{Said, said_of}
use Rattle.play_event.specs.Due.{turn}
use Rattle.play_event.specs.PlayerToAct.{player_to_act}
use Rattle.play_event.specs.Openers.{InTurn}
use Rattle.play_event.specs.Scripts.{past_of, resolved_by, resolved_on, with_event}
use Rattle.play_event.specs.Table.{up_cards}
use Rattle.play_event.specs.declared.event.Event.{Event}
use Rattle.play_event.specs.declared.setup.Rules.{Rules}
use Rattle.play_event.specs.declared.setup.Setup.{Setup}
use Rattle.printed_hands.specs.Steps.{event_named}
use Rattle.play_event.proofs.SaidSoFar.{so_far}

-- of the first events, those after the first ones, the newest first
abbrev pub later_than : List Event → (events count : ℕ) → List Said
later_than script events count = reverse (drop count (take events (map said_of script)))

-- the first events are those later than some, and these
pub all_are : (script : List Event) (events count : ℕ) → count ≤ events → so_far script events ≡ later_than script events count ++ so_far script count
all_are script events count within =
    let all = map said_of script in
    let first = take events all in
    ap reverse (sym (take_drop count first)) ∙ reverse-append (take count first) (drop count first)
    ∙ ap (λ (list : List Said). reverse (drop count first) ++ reverse list) (take_take count events all within)
  where
    take_drop : (count : ℕ) (events : List Said) → take count events ++ drop count events ≡ events
    take_drop zero events = refl
    take_drop (suc count) [] = refl
    take_drop (suc count) (event ∷ events) = ap (λ rest. event ∷ rest) (take_drop count events)

    take_take : (count most : ℕ) (events : List Said) → count ≤ most → take count (take most events) ≡ take count events
    take_take zero most events within = refl
    take_take (suc count) zero events within = absurd (omega (arith, within))
    take_take (suc count) (suc most) [] within = refl
    take_take (suc count) (suc most) (event ∷ events) within = ap (λ rest. event ∷ rest) (take_take count most events (omega (arith, within)))

-- events before legal ones are legal
pub legal_before : (setup : Setup) (rules : Rules) (later events : List Said) → AreLegal setup rules (later ++ events) → AreLegal setup rules events
legal_before setup rules [] events legal = legal
legal_before setup rules (event ∷ later) events legal = legal_before setup rules later events legal.1

-- the moves of a past with one more event begin with the new ones
added : (newest : Resolved) (before : Past) → (front : List Move) × (moves_of (newest ∷ before) ≡ front ++ moves_of before)
added (past.Moved move) before = (move ∷ [], refl)
added (past.Dealt street seat cards) before = ([], refl)
added (past.Boarded street cards) before = ([], refl)
added (past.Discarded street seat cards) before = ([], refl)
added (past.Shown street seat cards) before = ([], refl)
added (past.Mucked street seat) before = ([], refl)

-- and those of a past with more events
pub record Longer (setup : Setup) (later events : List Said) : Type 0 where
  pub front : List Move
  pub is : moves_of (past_of setup (later ++ events)) ≡ front ++ moves_of (past_of setup events)

pub longer : (setup : Setup) (later events : List Said) → Longer setup later events
unfolding with_event
longer setup [] events = record { front = []; is = refl }
longer setup (event ∷ later) events =
    let before = longer setup later events in
    let base : Past = past_of setup (later ++ events) in
    let new = added (resolved_on setup base (turn setup base).0 event) base in
    record {
      front = new.0 ++ before.front;
      is = new.1 ∙ ap (λ list. new.0 ++ list) before.is ∙ sym (append_assoc new.0 before.front (moves_of (past_of setup events)));
    }

-- an event of cards takes place as it is, and moves nothing
pub record OnCards (setup : Setup) (before : Past) (event : Said) : Type 0 where
  pub newest : Resolved
  pub is : with_event setup event before ≡ newest ∷ before
  pub named : event_named newest ≡ event
  pub moves : moves_of (newest ∷ before) ≡ moves_of before

pub on_cards : (setup : Setup) (before : Past) (event : Said) → is_move_event event ≡ false → OnCards setup before event
unfolding with_event
on_cards setup before (said.Hole seat cards) is_not = record { newest = past.Dealt (turn setup before).0 seat cards; is = refl; named = refl; moves = refl }
on_cards setup before (said.Board cards) is_not = record { newest = past.Boarded (turn setup before).0 cards; is = refl; named = refl; moves = refl }
on_cards setup before (said.Discard seat cards) is_not = record { newest = past.Discarded (turn setup before).0 seat cards; is = refl; named = refl; moves = refl }
on_cards setup before (said.Show seat cards) is_not = record { newest = past.Shown (turn setup before).0 seat cards; is = refl; named = refl; moves = refl }
on_cards setup before (said.Muck seat) is_not = record { newest = past.Mucked (turn setup before).0 seat; is = refl; named = refl; moves = refl }
on_cards setup before (said.Fold named) is_not = cc
on_cards setup before (said.Call named stated) is_not = cc
on_cards setup before (said.Raise named amount) is_not = cc
on_cards setup before (said.BringIn named) is_not = cc

-- a move takes place as a move
is_moved : Resolved → Bool
is_moved (past.Moved move) = true
is_moved (past.Dealt street seat cards) = false
is_moved (past.Boarded street cards) = false
is_moved (past.Discarded street seat cards) = false
is_moved (past.Shown street seat cards) = false
is_moved (past.Mucked street seat) = false

the_move : (newest : Resolved) → is_moved newest ≡ true → (move : Move) × (newest ≡ past.Moved move)
unfolding is_moved
the_move (past.Moved move) is_so = (move, refl)
the_move (past.Dealt street seat cards) is_so = cc
the_move (past.Boarded street cards) is_so = cc
the_move (past.Discarded street seat cards) is_so = cc
the_move (past.Shown street seat cards) is_so = cc
the_move (past.Mucked street seat) is_so = cc

moved_by : (setup : Setup) (moves : List Move) (street : ℕ) (in_turn : InTurn) (event : Said) → is_move_event event ≡ true → is_moved (resolved_by setup moves street in_turn event) ≡ true
unfolding is_moved
moved_by setup moves street in_turn (said.Fold named) is_so = refl
moved_by setup moves street in_turn (said.Call named stated) is_so = refl
moved_by setup moves street in_turn (said.Raise named amount) is_so = refl
moved_by setup moves street in_turn (said.BringIn named) is_so = refl
moved_by setup moves street in_turn (said.Hole seat cards) is_so = cc
moved_by setup moves street in_turn (said.Board cards) is_so = cc
moved_by setup moves street in_turn (said.Discard seat cards) is_so = cc
moved_by setup moves street in_turn (said.Show seat cards) is_so = cc
moved_by setup moves street in_turn (said.Muck seat) is_so = cc

pub record ByMove (setup : Setup) (before : Past) (event : Said) : Type 0 where
  pub move : Move
  pub is : with_event setup event before ≡ past.Moved move ∷ before

pub by_move : (setup : Setup) (before : Past) (event : Said) → is_move_event event ≡ true → ByMove setup before event
unfolding with_event
by_move setup before event is_so =
    let street = (turn setup before).0 in
    let in_turn = player_to_act setup (up_cards setup.code before) (moves_of before) street in
    let found = the_move (resolved_by setup (moves_of before) street in_turn event) (moved_by setup (moves_of before) street in_turn event is_so) in
    record { move = found.0; is = ap (λ newest. newest ∷ before) found.1 }

-- a past has as many events as there are
pub past_length : (setup : Setup) (events : List Said) → length (past_of setup events) ≡ length events
unfolding with_event
past_length setup [] = refl
past_length setup (event ∷ before) = ap suc (past_length setup before)

-- and no more moves than events
pub moves_few : (before : Past) → length (moves_of before) ≤ length before
moves_few [] = omega arith
moves_few (past.Moved move ∷ before) = omega (arith, moves_few before)
moves_few (past.Dealt street seat cards ∷ before) = omega (arith, moves_few before)
moves_few (past.Boarded street cards ∷ before) = omega (arith, moves_few before)
moves_few (past.Discarded street seat cards ∷ before) = omega (arith, moves_few before)
moves_few (past.Shown street seat cards ∷ before) = omega (arith, moves_few before)
moves_few (past.Mucked street seat ∷ before) = omega (arith, moves_few before)
