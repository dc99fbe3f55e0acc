-- The MATCHSTATE lines that one seat of a match receives of a hand: before each move and after the
-- last.
--
-- A line has the seat, the number of the hand, and the betting and the cards as a log writes them:
-- the moves made so far, and the cards that the seat could see.
use Rattle.std.specs.Prelude.{ℕ, ◌+◌, ◌-◌, Bool, true, ◌&&◌, ◌||◌, ◌==◌, nat_le, List, [], ◌∷◌, ◌++◌, codes, decimal, filter, flat_map, length, slice_get, take, Option, Some, None}
use Rattle.std.specs.List.{list_any, range_with_len}
use Rattle.std.specs.Option.{option_map_or}
use Rattle.acpc_format.specs.Betting.{betting_text}
use Rattle.acpc_format.specs.Cards.{cards_text}
use Rattle.acpc_format.specs.Names.{hand_text}
use Rattle.play_event.specs.CanonScript.{plain_moves}
use Rattle.play_event.specs.TraceCore.{TraceCore}
use Rattle.hand_canon.specs.TraceRows.{core_said}
use Rattle.hand_canon.specs.declared.trace.Play.{Play}
use Rattle.hand_canon.specs.declared.trace.Trace.{Trace}
use Rattle.play_event.specs.Trace.{TracedMove, TracedPlace}

-- The round of a street has begun before the move at an index (from 0): the move is on this street
-- or a later one. After the last move all rounds of the trace have begun.
abbrev pub has_begun : List TracedMove → ℕ → ℕ → Bool
has_begun moves index street =
    option_map_or (λ move. nat_le street move.street) (slice_get moves index) true

-- `count` moves are all moves of the trace
abbrev pub is_at_end : TraceCore → ℕ → Bool
is_at_end trace count = nat_le (length trace.moves) count

-- a seat sees the hole cards of an owner: its own and, after the last move, those that are shown
abbrev pub sees_seat : TraceCore → (viewer count owner : ℕ) → Bool
sees_seat trace viewer count owner =
    (owner == viewer) || (is_at_end trace count && list_any (λ shown. shown == owner) trace.shown)

-- a seat sees a card after the first `count` moves: a board card whose round has begun, or a card
-- of a seat whose cards it sees
abbrev pub is_seen_by : TraceCore → (viewer count : ℕ) → Option ℕ → ℕ → Bool
is_seen_by trace viewer count None street = has_begun trace.moves count street
is_seen_by trace viewer count (Some owner) street = sees_seat trace viewer count owner

-- the cards that a seat sees then, each with its place in the trace
abbrev pub seen_places : TraceCore → (viewer count : ℕ) → List TracedPlace
seen_places trace viewer count =
    filter (λ place. is_seen_by trace viewer count place.owner place.street) trace.places

-- the betting of the first `count` moves, a colon, and the cards that a seat sees then
unfoldable pub seen_text : Bool → Trace → (viewer count : ℕ) → List ℕ
seen_text no_limit trace viewer count =
    betting_text no_limit trace.setup (seen_places (core_said trace) viewer count)
    (plain_moves (take count (core_said trace).moves))
    ++ 58 ∷ cards_text (seen_places (core_said trace) viewer count) trace.setup.stacks.seats

-- the front of a line: MATCHSTATE, the number of the seat from 0, and the number of the hand at a
-- place of its file, from 0
unfoldable pub head_text : (viewer place : ℕ) → Option (List ℕ) → List ℕ
head_text viewer place hand =
    codes "MATCHSTATE:" ++ (decimal (viewer - 1) ++ 58 ∷ hand_text place hand)

-- the line of a seat after the first `count` moves of the play at a place of its file, from 0
unfoldable pub view_line : Bool → (viewer place : ℕ) → Play → ℕ → List ℕ
view_line no_limit viewer place play count =
    head_text viewer place play.hand.notes.hand
    ++ 58 ∷ (seen_text no_limit play.trace viewer count ++ 10 ∷ [])

-- the lines of a seat: one before each move, and one after the last
unfoldable pub views_text : Bool → (viewer place : ℕ) → Play → List ℕ
views_text no_limit viewer place play =
    flat_map (view_line no_limit viewer place play) (range_with_len 0 (length play.trace.moves + 1))
