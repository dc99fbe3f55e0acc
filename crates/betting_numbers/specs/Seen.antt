-- What the running numbers say of the table: who can act, what the current bet is, whose turn it
-- is.
use Rattle.std.specs.Prelude.{ℕ, ◌+◌, ◌-◌, Bool, false, ◌&&◌, ◌||◌, ◌==◌, nat_lt, nat_le, not, if◌then◌else◌, map, count_by, Option, Some, None}
use Rattle.std.specs.List.{list_any}
use Rattle.std.specs.Option.{option_map}
use Rattle.chip_ledger.specs.LiveRow.{flag_of}
use Rattle.chip_ledger.specs.SeatRow.{amount_of}
use Rattle.chip_ledger.specs.declared.numbers.Seat.{Seat}
use Rattle.play_event.specs.Due.{is_after_betting}
use Rattle.chip_ledger.specs.Greatest.{greatest}
use Rattle.play_event.specs.Seats.{all_seats}
use Rattle.play_event.specs.Streets.{is_stud_game}
use Rattle.play_event.specs.Openers.{InTurn, TheSeat, seat_after}
use Rattle.play_event.specs.PlayerToAct.{first_in_turn}
use Rattle.betting_numbers.specs.declared.betting_state.BettingState.{BettingState}

-- the chips that a seat has left
abbrev pub left_seen : BettingState → ℕ → ℕ
left_seen betting seat = amount_of betting.setup.stacks seat - amount_of betting.puts seat

-- the seat can act: it is live and has chips left
abbrev pub can_act_seen : BettingState → ℕ → Bool
can_act_seen betting seat = flag_of betting.live seat && nat_lt 0 (left_seen betting seat)

-- the current bet of the street, in chips
abbrev pub current_bet_seen : BettingState → ℕ
current_bet_seen betting = greatest (map (amount_of betting.bets) (all_seats betting.setup))

-- what a seat owes to call, in chips
abbrev pub to_call_seen : BettingState → ℕ → ℕ
to_call_seen betting seat = current_bet_seen betting - amount_of betting.bets seat

-- the seat's chips on the street once it is all-in
abbrev pub all_in_seen : BettingState → ℕ → ℕ
all_in_seen betting seat = amount_of betting.bets seat + left_seen betting seat

-- the number of live seats
abbrev pub live_count_seen : BettingState → ℕ
live_count_seen betting = count_by (flag_of betting.live) (all_seats betting.setup)

-- the number of seats that can act
abbrev pub able_count_seen : BettingState → ℕ
able_count_seen betting = count_by (can_act_seen betting) (all_seats betting.setup)

-- a seat has a move to make
abbrev pub has_to_move_seen : BettingState → ℕ → Bool
has_to_move_seen betting seat =
    can_act_seen betting seat
    && (if flag_of betting.acted_since_raise seat
    then false
    else (nat_lt 0 (to_call_seen betting seat) || nat_le 2 (able_count_seen betting)))

-- some seat has a move to make
abbrev pub is_move_due_seen : BettingState → Bool
is_move_due_seen betting = list_any (has_to_move_seen betting) (all_seats betting.setup)

-- a bring-in is due
abbrev pub is_bring_in_due_seen : BettingState → Bool
is_bring_in_due_seen betting =
    is_stud_game betting.setup.code && (betting.street == 1) && nat_le 2 (able_count_seen betting)
    && not betting.bet_or_bring_in_made

-- another seat can act
abbrev pub has_opponent_seen : BettingState → ℕ → Bool
has_opponent_seen betting seat =
    list_any (λ other. can_act_seen betting other && not (other == seat)) (all_seats betting.setup)

-- whose turn it is: after a seat has moved, that of the next one; before that, that of the opener
abbrev pub after_last : Option ℕ → (ℕ → ℕ) → InTurn → InTurn
after_last None after opener = opener
after_last (Some seat) after opener = TheSeat (after seat)

-- the number of the seat that moved last
abbrev pub last_seen : BettingState → Option ℕ
last_seen betting = option_map (λ (s : Seat). s.number) betting.last

-- whose turn it is, given the opener
abbrev pub player_to_act_seen : BettingState → InTurn → InTurn
player_to_act_seen betting opener =
    first_in_turn betting.setup (has_to_move_seen betting)
    (after_last (last_seen betting) (seat_after betting.setup) opener)

-- the first seat after this one that can act, going round; this seat is the last
abbrev pub first_behind_seen : BettingState → ℕ → InTurn
first_behind_seen betting seat =
    first_in_turn betting.setup (can_act_seen betting) (TheSeat (seat_after betting.setup seat))

-- a seat that can act owes chips
abbrev pub has_able_seat_to_call_seen : BettingState → Bool
has_able_seat_to_call_seen betting =
    list_any (λ seat. can_act_seen betting seat && nat_lt 0 (to_call_seen betting seat))
    (all_seats betting.setup)

-- two or more seats are live, and no more betting is possible
abbrev pub is_settled_seen : BettingState → Bool
is_settled_seen betting =
    nat_le 2 (live_count_seen betting)
    && (is_after_betting betting.due
    || (nat_le (able_count_seen betting) 1 && not (has_able_seat_to_call_seen betting)))
