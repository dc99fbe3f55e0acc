-- What a written log says when it is read again: for each play its canonical script in the log's
-- letters, its values and its kept notes.
use Rattle.std.specs.Prelude.{ℕ, ◌+◌, ◌-◌, ◌==◌, Bool, bytes_eq, if◌then◌else◌, List, [], ◌∷◌, ◌++◌, map, slice_index_or, decimal, Option, Some, None}
use Rattle.std.specs.List.{flat_map}
use Rattle.play_event.specs.declared.event.Spelled.TheVariants as spelled
use Rattle.play_event.specs.declared.setup.Setup.{Setup}
use Rattle.play_event.specs.Past.{Act, BroughtIn, Called, Folded, Move, Raised}
use Rattle.play_event.specs.Said as said
use Rattle.play_event.specs.Said.{Numbered, Said}
use Rattle.play_event.specs.Seats.{all_seats}
use Rattle.play_event.specs.Trace.{TracedPlace}
use Rattle.play_event.specs.CanonScript.{deals_said, plain_moves}
use Rattle.play_event.specs.PlayedScript.{is_move_event}
use Rattle.hand_canon.specs.Agreement.{value_of}
use Rattle.hand_canon.specs.TraceRows.{core_said}
use Rattle.hand_canon.specs.declared.notes.Notes.{Notes}
use Rattle.hand_canon.specs.declared.trace.Play.{Play}
use Rattle.hand_canon.specs.declared.trace.Trace.{Trace}
use Rattle.acpc_format.specs.Betting.{hand_total}
use Rattle.acpc_format.specs.Names.{is_spelled_hand, is_spelled_name}
use Rattle.acpc_reading.specs.Logs.{HandSaid}
use Rattle.first_fault.specs.Numbers.{saturated}

-- A move as its letter says it: without its seat; a call without its chips; a raise by the chips
-- that the seat has put in the whole hand, or by the unit in a limit game. A bring-in has no
-- letter.
abbrev pub move_again : Bool → Act → ℕ → List Said
move_again no_limit Folded total = said.Fold None ∷ []
move_again no_limit Called total = said.Call None None ∷ []
move_again no_limit Raised total =
    said.Raise None (if no_limit then spelled.HandTotal total else spelled.Unit) ∷ []
move_again no_limit BroughtIn total = []

-- a move as its letter says it, if the move is on this street
abbrev pub move_on : Bool → ℕ → Move → ℕ → List Said
move_on no_limit street move total =
    if move.street == street then move_again no_limit move.act total else []

-- the moves of a street as letters say them, oldest first; the moves of the hand are given newest
-- first
unfoldable pub moves_again : Bool → Setup → ℕ → List Move → List Said
moves_again no_limit setup street [] = []
moves_again no_limit setup street (move ∷ before) =
    moves_again no_limit setup street before
    ++ move_on no_limit street move (hand_total setup move before)

-- one street of the canonical script: its deals, then its moves as letters say them
abbrev pub street_again : Bool → Setup → List TracedPlace → List Move → ℕ → List Said
street_again no_limit setup placed moves street =
    deals_said setup placed street ++ moves_again no_limit setup street moves

-- the canonical script of a hold'em hand without its showdown, with the moves as letters say them
abbrev pub script_again : Bool → Trace → List Said
script_again no_limit trace =
    flat_map
    (street_again no_limit trace.setup (core_said trace).places
    (plain_moves (core_said trace).moves))
    (1 ∷ 2 ∷ 3 ∷ 4 ∷ [])

-- events with the numbers of their letters, starting at this number; deals get 0
abbrev pub numbered_from : ℕ → List Said → List Numbered
numbered_from n [] = []
numbered_from n (event ∷ rest) =
    if is_move_event event
    then (saturated n, event) ∷ numbered_from (n + 1) rest
    else (0, event) ∷ numbered_from n rest

-- the name if a line can write it, else no name
abbrev pub kept_name : Option (List ℕ) → Option (List ℕ)
kept_name None = None
kept_name (Some name) = if is_spelled_name name then Some name else None

-- the kept name of a seat's player
abbrev pub name_again : Notes → ℕ → Option (List ℕ)
name_again notes seat = kept_name (slice_index_or notes.names (seat - 1) None)

-- the hand's number as it is kept: no number if a line cannot write it, or if it is the hand's
-- place in its file (from 0)
abbrev pub kept_hand : ℕ → Option (List ℕ) → Option (List ℕ)
kept_hand place None = None
kept_hand place (Some text) =
    if is_spelled_hand text
    then (if bytes_eq text (decimal place) then None else Some text)
    else None

-- what is read again of the play at this place of its file, from 0
abbrev pub hand_again : Bool → ℕ → Play → HandSaid
hand_again no_limit place play = record {
  events = numbered_from 1 (script_again no_limit play.trace);
  values = map (value_of play.trace) (all_seats play.trace.setup);
  names = map (name_again play.hand.notes) (all_seats play.trace.setup);
  hand = kept_hand place play.hand.notes.hand;
}

-- what is read again of plays, the first of which is at this place
abbrev pub hands_again : Bool → ℕ → List Play → List HandSaid
hands_again no_limit place [] = []
hands_again no_limit place (play ∷ rest) =
    hand_again no_limit place play ∷ hands_again no_limit (place + 1) rest
