-- Which cards are due: by the deal of a street, to the board, and in a draw. Amounts play no part
-- here.
use Rattle.std.specs.Prelude.{ℕ, ◌+◌, ◌-◌, Bool, false, ◌&&◌, ◌||◌, ◌==◌, not, nat_lt, if◌then◌else◌, [], ◌∷◌, length, find, Option, is_some}
use Rattle.std.specs.List.{list_any}
use Rattle.play_event.specs.declared.setup.Setup.{Setup}
use Rattle.play_event.specs.Games.{hole_cards_on, board_cards_on}
use Rattle.play_event.specs.Streets.{has_draw}
use Rattle.play_event.specs.Past.{Past, Resolved, Dealt, Boarded, Moved, Discarded, Shown, Mucked, moves_of}
use Rattle.play_event.specs.Seats.{is_live, all_seats}

-- how many hole cards a seat was dealt on a street
abbrev pub hole_cards_dealt : Past → ℕ → ℕ → ℕ
hole_cards_dealt [] street seat = 0
hole_cards_dealt (Dealt on owner cards ∷ before) street seat =
    (if (on == street) && (owner == seat) then length cards else 0)
    + hole_cards_dealt before street seat
hole_cards_dealt (Boarded on cards ∷ before) street seat = hole_cards_dealt before street seat
hole_cards_dealt (Moved move ∷ before) street seat = hole_cards_dealt before street seat
hole_cards_dealt (Discarded on owner cards ∷ before) street seat =
    hole_cards_dealt before street seat
hole_cards_dealt (Shown on owner cards ∷ before) street seat = hole_cards_dealt before street seat
hole_cards_dealt (Mucked on owner ∷ before) street seat = hole_cards_dealt before street seat

-- how many cards the board was dealt on a street
abbrev pub board_cards_dealt : Past → ℕ → ℕ
board_cards_dealt [] street = 0
board_cards_dealt (Boarded on cards ∷ before) street =
    (if on == street then length cards else 0) + board_cards_dealt before street
board_cards_dealt (Dealt on owner cards ∷ before) street = board_cards_dealt before street
board_cards_dealt (Moved move ∷ before) street = board_cards_dealt before street
board_cards_dealt (Discarded on owner cards ∷ before) street = board_cards_dealt before street
board_cards_dealt (Shown on owner cards ∷ before) street = board_cards_dealt before street
board_cards_dealt (Mucked on owner ∷ before) street = board_cards_dealt before street

-- how many cards a seat discarded in the draw of a street
abbrev pub cards_discarded : Past → ℕ → ℕ → ℕ
cards_discarded [] street seat = 0
cards_discarded (Discarded on owner cards ∷ before) street seat =
    (if (on == street) && (owner == seat) then length cards else 0)
    + cards_discarded before street seat
cards_discarded (Dealt on owner cards ∷ before) street seat = cards_discarded before street seat
cards_discarded (Boarded on cards ∷ before) street seat = cards_discarded before street seat
cards_discarded (Moved move ∷ before) street seat = cards_discarded before street seat
cards_discarded (Shown on owner cards ∷ before) street seat = cards_discarded before street seat
cards_discarded (Mucked on owner ∷ before) street seat = cards_discarded before street seat

-- an event is the draw of a seat on a street; a seat that discards nothing stands pat
abbrev pub is_draw_of : ℕ → ℕ → Resolved → Bool
is_draw_of street seat (Discarded on owner cards) = (on == street) && (owner == seat)
is_draw_of street seat (Dealt on owner cards) = false
is_draw_of street seat (Boarded on cards) = false
is_draw_of street seat (Moved move) = false
is_draw_of street seat (Shown on owner cards) = false
is_draw_of street seat (Mucked on owner) = false

-- a seat has drawn on a street
abbrev pub has_drawn : Past → ℕ → ℕ → Bool
has_drawn past street seat = list_any (is_draw_of street seat) past

-- how many hole cards of a street a seat is still due; a folded seat is due none
abbrev pub hole_cards_owed : Setup → Past → ℕ → ℕ → ℕ
hole_cards_owed setup past street seat =
    if is_live (moves_of past) seat
    then hole_cards_on setup.code street - hole_cards_dealt past street seat
    else 0

-- how many cards of a street the board is still due
abbrev pub board_cards_owed : Setup → Past → ℕ → ℕ
board_cards_owed setup past street =
    board_cards_on setup.code street - board_cards_dealt past street

-- how many cards a seat is still due for its discards in the draw of a street
abbrev pub replacements_owed : Past → ℕ → ℕ → ℕ
replacements_owed past street seat =
    cards_discarded past street seat - hole_cards_dealt past street seat

-- how many cards a seat is due: in a draw for its discards, and otherwise by the deal of the street
abbrev pub cards_owed : Setup → Past → ℕ → ℕ → ℕ
cards_owed setup past street seat =
    if has_draw setup.code street
    then replacements_owed past street seat
    else hole_cards_owed setup past street seat

-- a deal is due: some live seat is missing hole cards of the street, or the board is missing some
-- of its cards
abbrev pub is_deal_due : Setup → Past → ℕ → Bool
is_deal_due setup past street =
    list_any (λ seat. nat_lt 0 (hole_cards_owed setup past street seat)) (all_seats setup)
    || nat_lt 0 (board_cards_owed setup past street)

-- the next seat to draw on a street: the first live seat that has not drawn there, if there is one
abbrev pub next_to_draw : Setup → Past → ℕ → Option ℕ
next_to_draw setup past street =
    find (λ seat. is_live (moves_of past) seat && not (has_drawn past street seat))
    (all_seats setup)

-- a draw is due: the street draws, and some live seat has not drawn or is due cards for its
-- discards
abbrev pub is_draw_due : Setup → Past → ℕ → Bool
is_draw_due setup past street =
    has_draw setup.code street
    && (is_some (next_to_draw setup past street)
    || list_any (λ seat. nat_lt 0 (replacements_owed past street seat)) (all_seats setup))
