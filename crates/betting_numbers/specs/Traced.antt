-- A move of the trace, by the running numbers before it.
use Rattle.std.specs.Prelude.{ℕ, Bool, ◌&&◌, ◌||◌, not}
use Rattle.chip_ledger.specs.LiveRow.{flag_of}
use Rattle.chip_ledger.specs.SeatRow.{amount_of}
use Rattle.play_event.specs.declared.event.Spelled.TheVariants as spelled
use Rattle.play_event.specs.declared.setup.Reopen.TheVariants as reopen
use Rattle.play_event.specs.declared.limit.Limit.{Limit}
use Rattle.play_event.specs.declared.limit.Limit.TheVariants as limits
use Rattle.play_event.specs.Past.{Act, is_raising}
use Rattle.play_event.specs.Streets.{unit}
use Rattle.play_event.specs.Trace.{TracedMove}
use Rattle.betting_numbers.specs.declared.betting_state.BettingState.{BettingState}
use Rattle.betting_numbers.specs.Seen.{current_bet_seen, to_call_seen}
use Rattle.betting_numbers.specs.Why.{is_open_by, is_legal_seen, floor_by, target_seen}

-- a raise is legal only under rules by which a raise always reopens the betting
abbrev pub is_closed_seen : Limit → BettingState → (seat target : ℕ) → Bool
is_closed_seen limit betting seat target =
    not
    (is_open_by reopen.Full limit (flag_of betting.moved seat) betting.full_raise
    (unit betting.setup betting.street)
    (to_call_seen betting seat))
    || not (is_legal_seen limit betting (floor_by reopen.Full 0 betting) seat target)

-- the target of a raise by the bet size, in fixed limit
abbrev pub unit_seen : Limit → BettingState → ℕ → ℕ
unit_seen limits.Fixed betting seat = target_seen betting seat spelled.Unit
unit_seen limits.Pot betting seat = 0
unit_seen limits.No betting seat = 0

-- the move as the trace keeps it
abbrev pub traced_seen : Limit → BettingState → (seat : ℕ) → Act → (target : ℕ) → TracedMove
traced_seen limit betting seat act target =
    record {
      street = betting.street;
      seat = seat;
      act = act;
      from = amount_of betting.bets seat;
      to = target;
      price = current_bet_seen betting;
      closed = is_raising act && is_closed_seen limit betting seat target;
      unit_to = unit_seen limit betting seat;
    }
