-- Why a move is refused, by the running numbers, if it is known whose turn it is.
use Rattle.std.specs.Prelude.{ℕ, ◌+◌, ◌-◌, ◌*◌, Bool, true, false, ◌&&◌, ◌||◌, ◌==◌, nat_lt, nat_le, not, min, max, if◌then◌else◌, List, [], ◌∷◌, slice_index, Option, Some, None, Result, Ok, Err}
use Rattle.std.specs.Option.{option_map_or}
use Rattle.chip_ledger.specs.declared.numbers.Seat.{Seat}
use Rattle.chip_ledger.specs.LiveRow.{flag_of}
use Rattle.chip_ledger.specs.SeatRow.{amount_of, total_of}
use Rattle.play_event.specs.declared.event.Spelled.{Spelled}
use Rattle.play_event.specs.declared.reason.Due.{Due}
use Rattle.play_event.specs.declared.reason.Due.TheVariants as dues
use Rattle.play_event.specs.declared.event.Spelled.TheVariants as spelled
use Rattle.play_event.specs.declared.reason.Illegal.{Illegal}
use Rattle.play_event.specs.declared.reason.Illegal.TheVariants as reasons
use Rattle.play_event.specs.declared.setup.Reopen.{Reopen}
use Rattle.play_event.specs.declared.setup.Reopen.TheVariants as reopen
use Rattle.play_event.specs.declared.limit.Limit.{Limit}
use Rattle.play_event.specs.declared.limit.Limit.TheVariants as limits
use Rattle.play_event.specs.Streets.{unit}
use Rattle.play_event.specs.Targets.{above_current_bet, is_legal_by, greatest_by}
use Rattle.betting_numbers.specs.declared.betting_state.BettingState.{BettingState}
use Rattle.betting_numbers.specs.Seen.{current_bet_seen, to_call_seen, can_act_seen, all_in_seen, has_opponent_seen}
use Rattle.play_event.specs.CurrentBet.{starting_bet}

-- the event names a seat whose turn it is not
abbrev pub is_another : Option ℕ → ℕ → Bool
is_another None player_to_act = false
is_another (Some seat) player_to_act = not (seat == player_to_act)

-- why a fold is refused
abbrev pub fold_reason : BettingState → Option ℕ → ℕ → Option Illegal
fold_reason betting named player_to_act =
    if is_another named player_to_act then Some reasons.WrongSeat
    else if not betting.rules.free_fold && (to_call_seen betting player_to_act == 0)
    then Some reasons.NothingToCall
    else None

-- the target of a call: the current bet, or all-in if that is less
abbrev pub call_seen : BettingState → ℕ → ℕ
call_seen betting seat = min (current_bet_seen betting) (all_in_seen betting seat)

-- a call states a different number of chips than it adds
abbrev pub stated_reason : Option ℕ → ℕ → Option Illegal
stated_reason None due = None
stated_reason (Some stated) due =
    if not (stated == due) then Some (reasons.AmountDiffers stated due) else None

-- why a call is refused
abbrev pub call_reason : BettingState → Option ℕ → Option ℕ → ℕ → Option Illegal
call_reason betting named stated player_to_act =
    if is_another named player_to_act
    then Some reasons.WrongSeat
    else stated_reason stated
    (call_seen betting player_to_act - amount_of betting.bets player_to_act)

-- the target of a raise
abbrev pub target_seen : BettingState → ℕ → Spelled → ℕ
target_seen betting seat (spelled.To amount) = amount
target_seen betting seat (spelled.Added amount) = amount_of betting.bets seat + amount
target_seen betting seat (spelled.HandTotal amount) =
    amount - (amount_of betting.puts seat - amount_of betting.bets seat)
target_seen betting seat spelled.Unit =
    min
    (if nat_lt (current_bet_seen betting) (unit betting.setup betting.street)
    then unit betting.setup betting.street
    else current_bet_seen betting + unit betting.setup betting.street)
    (all_in_seen betting seat)

-- the number of raises is within the cap
abbrev pub is_within_cap_by : Option (List ℕ) → ℕ → ℕ → Bool
is_within_cap_by None raises street = true
is_within_cap_by (Some caps) raises street =
    nat_lt 4 street || nat_lt raises (slice_index caps (street - 1))

-- what a seat owes is enough to reopen the betting to it
abbrev pub is_reopened_by : Limit → (least size owes : ℕ) → Bool
is_reopened_by limits.No least size owes = nat_le least owes
is_reopened_by limits.Pot least size owes = nat_le least owes
is_reopened_by limits.Fixed least size owes = nat_le size (2 * owes)

-- the betting is open to a seat
abbrev pub is_open_by : Reopen → Limit → (moved : Bool) → (least size owes : ℕ) → Bool
is_open_by reopen.Always limit moved least size owes = true
is_open_by reopen.Full limit moved least size owes =
    not moved || is_reopened_by limit least size owes

-- the seat may raise
abbrev pub may_raise_seen : Limit → BettingState → ℕ → Bool
may_raise_seen limit betting seat =
    has_opponent_seen betting seat && nat_lt (current_bet_seen betting) (all_in_seen betting seat)
    && is_within_cap_by betting.rules.caps betting.raises betting.street
    && is_open_by betting.rules.reopen limit (flag_of betting.moved seat) betting.full_raise
    (unit betting.setup betting.street)
    (to_call_seen betting seat)

-- the least no-limit raise that is not all-in, given the current bet at the start of the street
abbrev pub floor_by : Reopen → (start : ℕ) → BettingState → ℕ
floor_by reopen.Full start betting = current_bet_seen betting + betting.full_raise
floor_by reopen.Always start betting = max (start + betting.setup.min_bet) betting.always_floor

-- the least no-limit raise that is not all-in, by the rules of the hand
abbrev pub floor_seen : BettingState → ℕ
floor_seen betting =
    floor_by betting.rules.reopen (starting_bet betting.setup betting.street) betting

-- the greatest raise in pot limit
abbrev pub ceiling_seen : BettingState → ℕ → ℕ
ceiling_seen betting seat =
    max (current_bet_seen betting + betting.full_raise)
    (current_bet_seen betting + total_of betting.puts + to_call_seen betting seat)

-- the full raises in fixed limit
abbrev pub full_raise_targets_by : (current_bet size full_bet : ℕ) → List ℕ
full_raise_targets_by current_bet size full_bet =
    if nat_lt current_bet size
    then (size ∷ [])
    else ((current_bet + size) ∷ above_current_bet current_bet (full_bet + size))

-- the full raises of the street
abbrev pub full_raise_targets_seen : BettingState → List ℕ
full_raise_targets_seen betting =
    full_raise_targets_by (current_bet_seen betting) (unit betting.setup betting.street)
    betting.full_bet

-- a target of a seat is legal, given the floor (the least no-limit raise that is not all-in)
abbrev pub is_legal_seen : Limit → BettingState → (floor seat target : ℕ) → Bool
is_legal_seen limit betting floor seat target =
    is_legal_by limit floor (current_bet_seen betting + betting.full_raise)
    (all_in_seen betting seat)
    (ceiling_seen betting seat)
    (full_raise_targets_seen betting) target

-- the greatest legal target of a seat
abbrev pub greatest_seen : Limit → BettingState → ℕ → ℕ
greatest_seen limit betting seat =
    greatest_by limit (all_in_seen betting seat) (ceiling_seen betting seat)
    (full_raise_targets_seen betting)

-- why a raise to a target is refused
abbrev pub raise_to_reason : Limit → BettingState → (floor player_to_act target : ℕ)
    → Option Illegal
raise_to_reason limit betting floor player_to_act target =
    if not (may_raise_seen limit betting player_to_act) then Some reasons.RaiseClosed
    else if not (is_legal_seen limit betting floor player_to_act target)
    && nat_lt target (greatest_seen limit betting player_to_act)
    then Some reasons.RaiseTooSmall
    else if nat_lt (greatest_seen limit betting player_to_act) target then Some reasons.RaiseTooBig
    else None

-- why a raise is refused, in whatever form it is written
abbrev pub raise_reason : Limit → BettingState → (floor : ℕ) → Option ℕ → Spelled → ℕ
    → Option Illegal
raise_reason limit betting floor named amount player_to_act =
    if is_another named player_to_act
    then Some reasons.WrongSeat
    else raise_to_reason limit betting floor player_to_act
    (target_seen betting player_to_act amount)

-- why an event may not come now: the hand is over, or something else is due; the event is possible
-- at a move or not, and at a bring-in or not
abbrev pub now_reason : (at_move at_bring_in : Bool) → Due → Option Illegal
now_reason at_move at_bring_in dues.Move = if at_move then None else Some reasons.WrongKind
now_reason at_move at_bring_in dues.BringIn = if at_bring_in then None else Some reasons.WrongKind
now_reason at_move at_bring_in dues.Over = Some reasons.HandOver
now_reason at_move at_bring_in (dues.Deal street) = Some reasons.WrongKind
now_reason at_move at_bring_in (dues.Draw street) = Some reasons.WrongKind
now_reason at_move at_bring_in dues.Show = Some reasons.WrongKind

-- the seat that the event names cannot act
abbrev pub cannot_act_seen : BettingState → Option ℕ → Bool
cannot_act_seen betting None = false
cannot_act_seen betting (Some seat) = not (can_act_seen betting seat)

-- why a move is refused if it is not known whose turn it is
abbrev pub unknown_reason : BettingState → Option ℕ → Illegal
unknown_reason betting named = if cannot_act_seen betting named then reasons.WrongSeat
    else reasons.UpCardUnknown

-- the seat whose turn it is, or why a move is refused if that is not known
abbrev pub turn_or_reason : BettingState → Option ℕ → Option Seat → Result Seat Illegal
turn_or_reason betting named None = Err (unknown_reason betting named)
turn_or_reason betting named (Some seat) = Ok seat

-- the seat that moves, or why the move is refused: it may not come now, or it is not known whose
-- turn it is
abbrev pub player_or_reason : BettingState → Option ℕ → Option Seat → Option Illegal
    → Result Seat Illegal
player_or_reason betting named in_turn (Some reason) = Err reason
player_or_reason betting named in_turn None = turn_or_reason betting named in_turn

-- the target of a bring-in: the bring-in, or all-in if that is less
abbrev pub bring_in_seen : BettingState → ℕ → ℕ
bring_in_seen betting seat = min betting.setup.bring_in (all_in_seen betting seat)

-- why a bring-in is refused
abbrev pub bring_in_reason : Option ℕ → ℕ → Option Illegal
bring_in_reason named player_to_act = if is_another named player_to_act then Some reasons.WrongSeat
    else None

-- one or two full raises as a list
abbrev pub full_raise_target_list : ℕ × Option ℕ → List ℕ
full_raise_target_list pair = pair.0 ∷ option_map_or (λ other. other ∷ []) pair.1 []
