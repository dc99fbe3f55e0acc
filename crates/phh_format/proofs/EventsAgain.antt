-- The actions of a script that was written read back as its events.
use Rattle.std.proofs.Common.{◌≡◌, ℕ, ◌+◌, ◌≤◌, Bool, true, false, not, cond, List, [], ◌∷◌, map, count_by, Ok, refl, ◌∙◌, arith}
use Rattle.std.specs.List.{AllByRecursion}
use Rattle.std.proofs.lemmas.Bool.{lt-leb}
use Rattle.toml.specs.Data.{string}
use Rattle.card_set.proofs.Counting.{count_by-cons}
use Rattle.first_fault.specs.Reading.{thread_from}
use Rattle.play_event.specs.declared.hand_limits.TheConstants.{MOST_MOVES, MOST_OTHER_EVENTS}
use Rattle.play_event.specs.PlayedScript.{is_move_event}
use Rattle.first_fault.specs.declared.limits.TheConstants.{MOST_FILE_MOVES}
use Rattle.play_event.specs.Said.{Said}
use Rattle.phh_actions.specs.Written.{event_text}
use Rattle.phh_actions.proofs.SaidAgain.{event_again}
use Rattle.phh_reading.specs.declared.field_fault.FieldKey.TheVariants as keys
use Rattle.phh_reading.specs.Fields.{item_place, text_said}
use Rattle.phh_reading.specs.declared.events.EventCounts.{EventCounts}
use Rattle.phh_reading.specs.Events.{added, counted, event_said}
use Rattle.phh_format.specs.Again.{numbered_from}
use Rattle.play_event.specs.Ranges.{IsInRange}

-- the counts after one more event, which is a move or not
abbrev pub one_more : EventCounts → Bool → EventCounts
one_more counts true = record { moves = counts.moves + 1; other_events = counts.other_events; file_moves = counts.file_moves + 1 }
one_more counts false = record { moves = counts.moves; other_events = counts.other_events + 1; file_moves = counts.file_moves }

-- the counts after some events
abbrev pub counts_with : EventCounts → List Said → EventCounts
counts_with counts [] = counts
counts_with counts (event ∷ rest) = counts_with (one_more counts (is_move_event event)) rest

-- there is room for the events within the limits
pub record HaveRoom (counts : EventCounts) (events : List Said) : Type 0 where
  pub moves : counts.moves + count_by is_move_event events ≤ MOST_MOVES
  pub others : counts.other_events + count_by (λ event. not (is_move_event event)) events ≤ MOST_OTHER_EVENTS
  pub file_moves : counts.file_moves + count_by is_move_event events ≤ MOST_FILE_MOVES

counted_more : (counts : EventCounts) (n : ℕ) (moves : Bool) → counts.moves + cond moves 1 0 ≤ MOST_MOVES → counts.other_events + cond moves 0 1 ≤ MOST_OTHER_EVENTS → counts.file_moves + cond moves 1 0 ≤ MOST_FILE_MOVES
    → counted counts (item_place keys.Actions n) moves ≡ Ok (one_more counts moves)
unfolding counted
counted_more counts n true moves others file = rw (lt-leb MOST_MOVES counts.moves (omega (arith, moves)), lt-leb MOST_FILE_MOVES counts.file_moves (omega (arith, file))) refl
counted_more counts n false moves others file = rw (lt-leb MOST_OTHER_EVENTS counts.other_events (omega (arith, others))) refl

less_room : (counts : EventCounts) (moves : Bool) (m o : ℕ) → counts.moves + (cond moves 1 0 + m) ≤ MOST_MOVES → counts.other_events + (cond moves 0 1 + o) ≤ MOST_OTHER_EVENTS → counts.file_moves + (cond moves 1 0 + m) ≤ MOST_FILE_MOVES
    → ((one_more counts moves).moves + m ≤ MOST_MOVES) × ((one_more counts moves).other_events + o ≤ MOST_OTHER_EVENTS) × ((one_more counts moves).file_moves + m ≤ MOST_FILE_MOVES)
less_room counts true m o a b c = (omega (arith, a), omega (arith, b), omega (arith, c))
less_room counts false m o a b c = (omega (arith, a), omega (arith, b), omega (arith, c))

other_count : (event : Said) (rest : List Said) (moves : Bool) → is_move_event event ≡ moves → count_by (λ event. not (is_move_event event)) (event ∷ rest) ≡ cond moves 0 1 + count_by (λ event. not (is_move_event event)) rest
other_count event rest true is = count_by-cons (λ event. not (is_move_event event)) event rest ∙ rw is refl
other_count event rest false is = count_by-cons (λ event. not (is_move_event event)) event rest ∙ rw is refl

module _ (seats : ℕ) (few : seats ≤ 10) where
  pub events_again : (n : ℕ) (counts : EventCounts) (events : List Said) → AllByRecursion (IsInRange seats) events → HaveRoom counts events
      → thread_from (event_said seats) counts n (map string (map event_text events)) ≡ Ok (numbered_from n events, counts_with counts events)
  unfolding thread_from event_said added text_said
  events_again n counts [] each room = refl
  events_again n counts (event ∷ rest) each room =
      let moves = is_move_event event in
      let m = count_by is_move_event rest in
      let o = count_by (λ event. not (is_move_event event)) rest in
      let move_count : count_by is_move_event (event ∷ rest) ≡ cond moves 1 0 + m = count_by-cons is_move_event event rest in
      let others : count_by (λ event. not (is_move_event event)) (event ∷ rest) ≡ cond moves 0 1 + o = other_count event rest moves refl in
      let a : counts.moves + (cond moves 1 0 + m) ≤ MOST_MOVES = omega (arith, room.moves, move_count) in
      let b : counts.other_events + (cond moves 0 1 + o) ≤ MOST_OTHER_EVENTS = omega (arith, room.others, others) in
      let c : counts.file_moves + (cond moves 1 0 + m) ≤ MOST_FILE_MOVES = omega (arith, room.file_moves, move_count) in
      let left = less_room counts moves m o a b c in
      rw (
        event_again seats event few each.0,
        counted_more counts n moves (omega (arith, a)) (omega (arith, b)) (omega (arith, c)),
        events_again (n + 1) (one_more counts moves) rest each.1 (record { moves = left.0; others = left.1; file_moves = left.2 }),
      ) refl
