-- What is due next, street by street.
use Rattle.std.specs.List.{list_all}
use Rattle.std.specs.Prelude.{ℕ, Bool, List, nat_le, ◌+◌, nat_lt, if◌then◌else◌}
use Rattle.play_event.specs.Games.{street_count}
use Rattle.play_event.specs.Past.{Past, street_of, Move}
use Rattle.play_event.specs.Streets.{has_draw}
use Rattle.play_event.specs.declared.code.Code.{Code}
use Rattle.play_event.specs.declared.reason.Due.TheVariants as dues
use Rattle.play_event.specs.declared.reason.Due.{Due}

-- no event of the past is of a later street
abbrev pub has_nothing_later : Past → ℕ → Bool
has_nothing_later past street = list_all (λ event. nat_le (street_of event) street) past

-- no move is of a later street
abbrev pub has_no_move_later : List Move → ℕ → Bool
has_no_move_later moves street = list_all (λ (move : Move). nat_le move.street street) moves

-- a street begins with its deal or its draw
abbrev pub street_cards : Code → ℕ → Due
street_cards code street = if has_draw code street then dues.Draw street else dues.Deal street

-- what comes when the betting of a street is closed: the cards of the next street, or after the
-- last one the showdown
abbrev pub turn_behind : Code → ℕ → ℕ × Due
turn_behind code street =
    if nat_lt street (street_count code)
    then (street + 1, street_cards code (street + 1))
    else (street, dues.Show)

-- what is due on a street whose cards are dealt: a bring-in, a move, or what comes after the
-- betting
abbrev pub betting_turn : Code → ℕ → (bring_in move : Bool) → ℕ × Due
betting_turn code street bring_in move =
    if bring_in
    then (street, dues.BringIn)
    else if move
    then (street, dues.Move)
    else turn_behind code street

-- what is due after a move
abbrev pub turn_after : Code → ℕ → (few bring_in move : Bool) → ℕ × Due
turn_after code street few bring_in move =
    if few then (street, dues.Over) else betting_turn code street bring_in move

-- what is due on this street and after it; the given due is that of the showdown
abbrev pub walked : Code → ℕ → (bring_in move : Bool) → Due → ℕ × Due
walked code street bring_in move last =
    if bring_in then (street, dues.BringIn)
    else if move then (street, dues.Move)
    else if nat_lt street (street_count code) then (street + 1, street_cards code (street + 1))
    else (street, last)
