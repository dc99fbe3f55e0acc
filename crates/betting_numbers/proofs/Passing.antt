-- The first seat with a move to make is among those up to the last seat, or those from the first
-- on.
use Rattle.std.proofs.Common.{◌≡◌, ℕ, ◌+◌, ◌-◌, ◌==◌, Bool, true, false, if◌then◌else◌, Option, Some, None, find, sym, ap, ◌∙◌, arith}
use Rattle.std.specs.List.{range_with_len}
use Rattle.std.specs.Option.{option_or}
use Rattle.std.proofs.lemmas.List.Folds.{find-append}
use Rattle.chip_ledger.specs.Seat.{IsSeatOf}
use Rattle.play_event.specs.Openers.{TheSeat, InTurn, blinds_opener, in_turn, seat_after}
use Rattle.play_event.specs.PlayerToAct.{first_in_turn, seats_from}
use Rattle.betting_numbers.specs.declared.betting_state.BettingState.{BettingState}
use Rattle.betting_numbers.specs.Seen.{after_last, last_seen, player_to_act_seen, has_to_move_seen}

turn_from : (b : BettingState) (opener : InTurn) (start : ℕ) (found : Option ℕ) → TheSeat start ≡ after_last (last_seen b) (seat_after b.setup) opener → found ≡ find (has_to_move_seen b) (seats_from b.setup start) → in_turn found ≡ player_to_act_seen b opener
turn_from b opener start found is first = ap in_turn first ∙ ap (first_in_turn b.setup (has_to_move_seen b)) is

joined : (b : BettingState) (start : ℕ) → find (has_to_move_seen b) (seats_from b.setup start) ≡ option_or (find (has_to_move_seen b) (range_with_len start (b.setup.stacks.seats + 1 - start))) (find (has_to_move_seen b) (range_with_len 1 (start - 1)))
joined b start = find-append (has_to_move_seen b) (range_with_len start (b.setup.stacks.seats + 1 - start)) (range_with_len 1 (start - 1))

pub player_to_act_before : (b : BettingState) (opener : InTurn) (start seat : ℕ) → TheSeat start ≡ after_last (last_seen b) (seat_after b.setup) opener → Some seat ≡ find (has_to_move_seen b) (range_with_len start (b.setup.stacks.seats + 1 - start)) → in_turn (Some seat) ≡ player_to_act_seen b opener
player_to_act_before b opener start seat is found =
    turn_from b opener start (Some seat) is (ap (λ o. option_or o (find (has_to_move_seen b) (range_with_len 1 (start - 1)))) found ∙ sym (joined b start))

pub player_to_act_behind : (b : BettingState) (opener : InTurn) (start : ℕ) (found : Option ℕ) → TheSeat start ≡ after_last (last_seen b) (seat_after b.setup) opener → None ≡ find (has_to_move_seen b) (range_with_len start (b.setup.stacks.seats + 1 - start)) → found ≡ find (has_to_move_seen b) (range_with_len 1 (start - 1)) → in_turn found ≡ player_to_act_seen b opener
player_to_act_behind b opener start found is none later =
    turn_from b opener start found is (later ∙ ap (λ o. option_or o (find (has_to_move_seen b) (range_with_len 1 (start - 1)))) none ∙ sym (joined b start))

-- who opens by the blinds is a seat of the hand
opener_by : (b : BettingState) (one : Bool) → IsSeatOf b.setup.stacks.seats (if one then blinds_opener b.setup 1 else 1)
opener_by b true = record { first = omega (arith, b.first_opener.first, b.first_opener_is); last = omega (arith, b.first_opener_in, b.first_opener_is) }
opener_by b false = record { first = omega arith; last = omega (arith, b.setup.stacks.least) }

pub opener_in : (b : BettingState) → IsSeatOf b.setup.stacks.seats (blinds_opener b.setup b.street)
opener_in b = opener_by b (b.street == 1)
