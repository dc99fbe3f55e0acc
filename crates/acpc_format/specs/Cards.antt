-- The cards of a line: the hole cards of each seat, and after a stroke those of the board for each
-- further round.
use Rattle.std.specs.Prelude.{ℕ, if◌then◌else◌, List, [], ◌++◌, Some, None}
use Rattle.std.specs.List.{flat_map, list_any}
use Rattle.card_set.specs.Known.{hides_card}
use Rattle.card_set.specs.Spelling.{spelling}
use Rattle.play_event.specs.Trace.{TracedPlace}
use Rattle.play_event.specs.CanonScript.{dealt_slots}
use Rattle.acpc_format.specs.Rounds.{behind_stroke, further_streets}
use Rattle.acpc_format.specs.Seats.{for_seats}

-- the hole cards of a seat, or nothing if one of them is unknown
abbrev pub hole_text : List TracedPlace → ℕ → List ℕ
hole_text placed seat =
    if list_any hides_card (dealt_slots placed (Some seat) 1)
    then []
    else spelling (dealt_slots placed (Some seat) 1)

-- the hole cards of `count` seats
unfoldable pub holes_text : List TracedPlace → ℕ → List ℕ
holes_text placed count = for_seats (hole_text placed) count

-- the cards of the board of a further round
unfoldable pub board_text : List TracedPlace → ℕ → List ℕ
board_text placed street = behind_stroke placed street (spelling (dealt_slots placed None street))

-- the cards of the board of all further rounds
unfoldable pub boards_text : List TracedPlace → List ℕ
boards_text placed = flat_map (board_text placed) further_streets

-- the cards of a hand with `count` seats
unfoldable pub cards_text : List TracedPlace → ℕ → List ℕ
cards_text placed count = holes_text placed count ++ boards_text placed
