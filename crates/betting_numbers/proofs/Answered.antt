-- An event is answered as the rules do: refused if no seat is to move, or as a move of the player
-- to act.
use Rattle.std.proofs.Common.{◌≡◌, ◌≤◌, refl, ℕ, Bool, Option, Some, None, Ok, Err, subst}
use Rattle.chip_ledger.specs.declared.numbers.Seat.{Seat}
use Rattle.chip_ledger.specs.Seat.{IsSeatOf}
use Rattle.chip_ledger.specs.SeatsSaid.{seat_said}
use Rattle.play_event.specs.declared.reason.Illegal.{Illegal}
use Rattle.play_event.specs.Openers.{TheSeat, Undecided}
use Rattle.play_event.specs.Past.{Past}
use Rattle.play_event.specs.Said.{Said}
use Rattle.betting_numbers.specs.declared.betting_state.BettingState.{BettingState}
use Rattle.betting_numbers.specs.LegalMoves.{IsAnswered, IsTurn, WhereBets, reason_after}
use Rattle.betting_numbers.specs.Standing.{StandsFor}
use Rattle.betting_numbers.specs.TurnSaid.{turn_of}
use Rattle.betting_numbers.specs.Why.{player_or_reason, now_reason, unknown_reason}
use Rattle.betting_numbers.proofs.InTurn.{bets_now}

-- an event that is refused for the reason of the rules is answered
pub refused_answer : (b : BettingState) (in_turn : Option Seat) (event : Said) (reason : Illegal)
    → WhereBets b in_turn (λ past. reason_after b past event ≡ Some reason)
    → IsAnswered b in_turn event (Err reason)
refused_answer b in_turn event reason refused = record {
  refused = refused;
  legal = λ past stands bets. tt;
  due = tt;
  fits = tt;
  in_hand = tt;
  seat = tt;
  reach = tt;
}

-- if no seat is to move, what holds of both reasons holds of the one that is given
reason_by : {P : Illegal → Type 0} (b : BettingState) (named : Option ℕ) (in_turn : Option Seat) (now : Option Illegal) (reason : Illegal)
    → Err reason ≡ player_or_reason b named in_turn now
    → ((other : Illegal) → Some other ≡ now → P other)
    → (now ≡ None → in_turn ≡ None → P (unknown_reason b named))
    → P reason
reason_by {P} b named in_turn (Some other) reason is not_now unknown = subst P (cc) (not_now other refl)
reason_by {P} b named None None reason is not_now unknown = subst P (cc) (unknown refl refl)
reason_by b named (Some seat) None reason is not_now unknown = absurd (cc)

-- if no seat is to move, an event is refused because it may not come now, or because it is not
-- known whose turn it is
pub no_player_to_act_answer : (b : BettingState) (in_turn : Option Seat) (named : Option ℕ) (event : Said) (at_move at_bring_in : Bool) (reason : Illegal)
    → Err reason ≡ player_or_reason b named in_turn (now_reason at_move at_bring_in b.due)
    → ((past : Past) → StandsFor b past → (other : Illegal) → Some other ≡ now_reason at_move at_bring_in b.due → reason_after b past event ≡ Some other)
    → ((past : Past) → StandsFor b past → now_reason at_move at_bring_in b.due ≡ None → IsTurn b past Undecided → reason_after b past event ≡ Some (unknown_reason b named))
    → IsAnswered b in_turn event (Err reason)
no_player_to_act_answer b in_turn named event at_move at_bring_in reason is not_now unknown =
    refused_answer b in_turn event reason
    (λ past stands bets.
    reason_by {P = λ why. reason_after b past event ≡ Some why} b named in_turn (now_reason at_move at_bring_in b.due) reason is (not_now past stands)
    (λ now none. unknown past stands now (subst (λ (t : Option Seat). IsTurn b past (turn_of (seat_said t))) none (bets (bets_now at_move at_bring_in b.due now)))))

-- a seat is to move: an event may come now, and it is that seat's turn
pub record Moves (b : BettingState) (in_turn : Option Seat) (at_move at_bring_in : Bool) (seat : Seat) : Type 0 where
  pub now : now_reason at_move at_bring_in b.due ≡ None
  pub is : in_turn ≡ Some seat
  pub in_hand : IsSeatOf b.setup.stacks.seats seat.number
  pub turn : WhereBets b in_turn (λ past. IsTurn b past (TheSeat seat.number))

found_by : (b : BettingState) (named : Option ℕ) (in_turn : Option Seat) (now : Option Illegal) (seat : Seat)
    → Ok seat ≡ player_or_reason b named in_turn now → (now ≡ None) × (in_turn ≡ Some seat)
found_by b named in_turn (Some reason) seat is = absurd (cc)
found_by b named None None seat is = absurd (cc)
found_by b named (Some other) None seat is = (refl, cc)

-- the seat that is found is to move
pub moves : (b : BettingState) (in_turn : Option Seat) (named : Option ℕ) (at_move at_bring_in : Bool) (seat : Seat)
    → ((s : Seat) → in_turn ≡ Some s → s.number ≤ b.setup.stacks.seats)
    → Ok seat ≡ player_or_reason b named in_turn (now_reason at_move at_bring_in b.due)
    → Moves b in_turn at_move at_bring_in seat
moves b in_turn named at_move at_bring_in seat in_hand is =
    let found = found_by b named in_turn (now_reason at_move at_bring_in b.due) seat is in
    record {
      now = found.0;
      is = found.1;
      in_hand = record { first = seat.first; last = in_hand seat found.1 };
      turn = λ past stands bets. subst (λ (t : Option Seat). IsTurn b past (turn_of (seat_said t))) found.1 (bets (bets_now at_move at_bring_in b.due found.0));
    }
