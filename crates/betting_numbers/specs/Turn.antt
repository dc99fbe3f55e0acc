-- What is due after the betting of a street has moved on.
use Rattle.std.specs.Prelude.{◌≡◌, ◌≤◌, ℕ, Bool, true, false, nat_le, ◌||◌, if◌then◌else◌, Option, Some, None, IfSome}
use Rattle.chip_ledger.specs.LiveRow.{flag_of}
use Rattle.chip_ledger.specs.declared.numbers.Seat.{Seat}
use Rattle.play_event.specs.declared.reason.Due.{Due}
use Rattle.play_event.specs.Due.{has_opened_betting}
use Rattle.play_event.specs.Openers.{InTurn, TheSeat, in_turn, blinds_opener}
use Rattle.play_event.specs.Past.{Act}
use Rattle.play_event.specs.TurnTargets.{is_bet_due}
use Rattle.betting_numbers.specs.declared.betting_state.BettingState.{BettingState}
use Rattle.chip_ledger.specs.SeatsSaid.{seat_said}
use Rattle.betting_numbers.specs.Seen.{first_behind_seen, has_to_move_seen, live_count_seen, is_bring_in_due_seen, is_move_due_seen, player_to_act_seen}
use Rattle.betting_numbers.specs.Moving.{IsNextStreet}
use Rattle.play_laws.specs.Walk.{betting_turn, turn_after}
use Rattle.play_laws.specs.Dues.{is_move}
use Rattle.chip_ledger.specs.Seat.{IsSeatOf}

-- the same numbers, with something else due
abbrev pub with_due : BettingState → Due → BettingState
with_due b due = record b { due = due }

-- the same numbers, with something else due and another player to act
abbrev pub with_turn : BettingState → Due → Option Seat → BettingState
with_turn b due next = record b { due = due; next = next }

-- if a move is due in a game with blinds, the player to act that is kept is the first seat with a
-- move to make
abbrev pub KeepsTurn : BettingState → Type 0
KeepsTurn b =
    is_move b.due ≡ true
    → in_turn (seat_said b.next) ≡ player_to_act_seen b (TheSeat (blinds_opener b.setup b.street))

-- if a bring-in or a move is due, the player to act that is kept is a seat of the hand
abbrev pub KeepsSeat : BettingState → Type 0
KeepsSeat b = is_bet_due b.due ≡ true → IfSome b.next (λ seat. seat.number ≤ b.setup.stacks.seats)

-- if no seat has moved on the street, none has since the current bet rose
abbrev pub StartsFresh : BettingState → Type 0
StartsFresh b =
    b.last ≡ None → (seat : ℕ) → IsSeatOf b.setup.stacks.seats seat
    → flag_of b.acted_since_raise seat ≡ false

-- before the first move of a street: the first seat that can act after the one that makes the move
pub record IsFirstBehind (b : BettingState) (seat : ℕ) (behind : Seat) : Type 0 where
  pub before_moves : b.last ≡ None
  pub first : TheSeat behind.number ≡ first_behind_seen b seat
  pub in_hand : behind.number ≤ b.setup.stacks.seats

-- after that move it is this seat's turn or, if it has no move to make, nobody's
pub record IsNextUp (b : BettingState) (behind : Seat) : Type 0 where
  pub turn : (opener : InTurn)
      → in_turn (if has_to_move_seen b behind.number then Some behind.number else None)
      ≡ player_to_act_seen b opener
  pub in_hand : behind.number ≤ b.setup.stacks.seats

-- what comes next is this: the street's betting goes on, or the next street begins, or no more
-- betting is possible
pub record IsTurnedTo (now : ℕ × Due) (mid next : BettingState) : Type 0 where
  pub turn_is : (next.street, next.due) ≡ now
  pub stays : next.street ≡ mid.street → next ≡ with_turn mid next.due next.next
  pub goes : (next.street ≡ mid.street → ⊥) → IsNextStreet mid next
  pub setup : next.setup ≡ mid.setup
  pub rules : next.rules ≡ mid.rules

-- if no bring-in is due: the hand is over if `over`, else a move or what comes after the betting
abbrev pub IsPassedTo : (over : Bool) → BettingState → BettingState → Type 0
IsPassedTo over mid next =
    IsTurnedTo (turn_after mid.setup.code mid.street over false (is_move_due_seen mid)) mid next

-- what comes after a move
abbrev pub IsSettledTo : BettingState → BettingState → Type 0
IsSettledTo mid next = IsPassedTo (nat_le (live_count_seen mid) 1) mid next

-- what comes after the deal or the draw of a street: a bring-in, a move, or what comes after the
-- betting
abbrev pub IsDealtTo : BettingState → BettingState → Type 0
IsDealtTo mid next =
    IsTurnedTo
    (betting_turn mid.setup.code mid.street (is_bring_in_due_seen mid) (is_move_due_seen mid))
    mid next

-- a move is possible when this is due: a bring-in or raise always, any other move only when a move
-- is due
abbrev pub may_come_at : Act → Due → Bool
may_come_at act due = has_opened_betting act || is_move due
