-- What is due: a deal, a draw, a bring-in, a move, or nothing on this street, and then the next
-- street.
use Rattle.std.specs.Prelude.{ℕ, zero, suc, ◌+◌, ◌-◌, Bool, true, false, ◌&&◌, ◌||◌, ◌==◌, nat_lt, nat_le, not, if◌then◌else◌, List, [], ◌∷◌, Option, Some, None, unwrap_or}
use Rattle.std.specs.Option.{option_map}
use Rattle.std.specs.List.{list_any}
use Rattle.play_event.specs.declared.reason.Due.{Due}
use Rattle.play_event.specs.declared.reason.Due.TheVariants as dues
use Rattle.play_event.specs.declared.setup.Setup.{Setup}
use Rattle.play_event.specs.Games.{street_count}
use Rattle.play_event.specs.Streets.{is_stud_game}
use Rattle.play_event.specs.Past.{Past, Move, Act, moves_of, moves_on, newest_street, is_raising, is_bringing_in}
use Rattle.play_event.specs.Seats.{can_act, all_seats, live_count, able_count}
use Rattle.play_event.specs.CurrentBet.{current_bet, to_call}
use Rattle.play_event.specs.Dealing.{is_deal_due, is_draw_due}
use Rattle.play_event.specs.Showing.{is_show_due}

-- a seat has acted on this street since the current bet last rose: it made that bet or raise, or
-- acted after it
abbrev pub has_acted_since_raise : Setup → List Move → ℕ → ℕ → Bool
has_acted_since_raise setup [] street seat = false
has_acted_since_raise setup (move ∷ before) street seat =
    if move.street == street
    then (move.seat == seat)
    || (nat_le move.to (current_bet setup before street)
    && has_acted_since_raise setup before street seat)
    else has_acted_since_raise setup before street seat

-- a seat has a move to make: it is live with chips left, has not acted since the current bet rose,
-- and has chips to call or an opponent who is live with chips left
abbrev pub has_to_move : Setup → List Move → ℕ → ℕ → Bool
has_to_move setup moves street seat =
    can_act setup moves seat
    && (if has_acted_since_raise setup moves street seat
    then false
    else (nat_lt 0 (to_call setup moves street seat) || nat_le 2 (able_count setup moves)))

-- a move is due: some seat has a move to make
abbrev pub is_move_due : Setup → List Move → ℕ → Bool
is_move_due setup moves street = list_any (has_to_move setup moves street) (all_seats setup)

-- the act opens the betting: it is a bring-in, a bet or a raise
abbrev pub has_opened_betting : Act → Bool
has_opened_betting act = is_raising act || is_bringing_in act

-- a bring-in is due: on the first street of stud, if at least two live seats have chips left,
-- before any bring-in or raise
abbrev pub is_bring_in_due : Setup → List Move → ℕ → Bool
is_bring_in_due setup moves street =
    is_stud_game setup.code && (street == 1) && nat_le 2 (able_count setup moves)
    && not (list_any (λ move. has_opened_betting move.act) (moves_on street moves))

-- what is due on this street, if something is
abbrev pub due_on : Setup → Past → ℕ → Option Due
due_on setup past street =
    if is_deal_due setup past street then Some (dues.Deal street)
    else if is_draw_due setup past street then Some (dues.Draw street)
    else if is_bring_in_due setup (moves_of past) street then Some dues.BringIn
    else if is_move_due setup (moves_of past) street then Some dues.Move
    else None

-- the first if there is one, otherwise the second
abbrev pub found_or : Option (ℕ × Due) → Option (ℕ × Due) → Option (ℕ × Due)
found_or (Some first) second = Some first
found_or None second = second

-- the first street, of this number of streets from this one on, on which something is due, and what
-- that is
abbrev pub first_due : (ℕ → Option Due) → ℕ → ℕ → Option (ℕ × Due)
first_due on zero street = None
first_due on (suc rest) street =
    found_or (option_map (λ due. (street, due)) (on street)) (first_due on rest (street + 1))

-- after the last street each live seat shows or mucks, and then the hand is over
abbrev pub showdown : Setup → Past → Due
showdown setup past = if is_show_due setup past then dues.Show else dues.Over

-- What is due, and on which street: on the current street, or else on the first later one on which
-- something is due. After the last street it is the showdown. With one live seat nothing is due.
unfoldable pub turn : Setup → Past → ℕ × Due
turn setup past =
    if nat_le (live_count setup (moves_of past)) 1 then (newest_street past, dues.Over)
    else unwrap_or
    (first_due (due_on setup past) (street_count setup.code + 1 - newest_street past)
    (newest_street past))
    (street_count setup.code, showdown setup past)

-- a script may not end while this is due
abbrev pub is_unfinished : Due → Bool
is_unfinished (dues.Deal street) = true
is_unfinished (dues.Draw street) = true
is_unfinished dues.BringIn = true
is_unfinished dues.Move = true
is_unfinished dues.Show = false
is_unfinished dues.Over = false

-- the betting of the last street is over
abbrev pub is_after_betting : Due → Bool
is_after_betting dues.Show = true
is_after_betting dues.Over = true
is_after_betting (dues.Deal street) = false
is_after_betting (dues.Draw street) = false
is_after_betting dues.BringIn = false
is_after_betting dues.Move = false

-- a live seat with chips left has chips to call
abbrev pub has_able_seat_to_call : Setup → List Move → ℕ → Bool
has_able_seat_to_call setup moves street =
    list_any (λ seat. can_act setup moves seat && nat_lt 0 (to_call setup moves street seat))
    (all_seats setup)

-- the hand is settled: at least two seats are live, and no more betting can come
abbrev pub is_settled : Setup → List Move → ℕ × Due → Bool
is_settled setup moves now =
    nat_le 2 (live_count setup moves)
    && (is_after_betting now.1
    || (nat_le (able_count setup moves) 1 && not (has_able_seat_to_call setup moves now.0)))
