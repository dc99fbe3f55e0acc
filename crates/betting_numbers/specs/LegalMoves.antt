-- A legal move, and whose turn it is, after a past.
use Rattle.std.specs.Prelude.{◌≡◌, ◌≤◌, ℕ, true, List, ◌∷◌, Option, Some, None, Result, IfErr, IfOk, OnOk}
use Rattle.chip_ledger.specs.declared.numbers.Seat.{Seat}
use Rattle.play_event.specs.declared.up_cards.UpRow.{UpRow}
use Rattle.play_event.specs.declared.reason.Illegal.{Illegal}
use Rattle.play_event.specs.Chips.{street_chips}
use Rattle.play_event.specs.Openers.{InTurn}
use Rattle.play_event.specs.Past.{Moved, Act, Past, Move, moves_of}
use Rattle.play_event.specs.Played.{act_said}
use Rattle.play_event.specs.Reasons.{why}
use Rattle.play_event.specs.Said.{Said}
use Rattle.play_event.specs.Scripts.{with_event}
use Rattle.play_event.specs.TurnTargets.{is_bet_due}
use Rattle.betting_numbers.specs.declared.legal_moves.LegalMove.{LegalMove}
use Rattle.betting_numbers.specs.declared.betting_state.BettingState.{BettingState}
use Rattle.betting_numbers.specs.TurnSaid.{in_turn_on, turn_of}
use Rattle.betting_numbers.specs.Seen.{all_in_seen}
use Rattle.betting_numbers.specs.Standing.{StandsFor}
use Rattle.betting_numbers.specs.Turn.{may_come_at}
use Rattle.betting_numbers.specs.UpSeen.{HoldsOpeningUps}
use Rattle.chip_ledger.specs.SeatsSaid.{seat_said}

-- a move of a seat to a target, after these moves
abbrev pub move_of : BettingState → List Move → ℕ → Act → ℕ → Move
move_of b moves seat act target =
    record {
      street = b.street;
      seat = seat;
      act = act;
      from = street_chips b.setup moves b.street seat;
      to = target;
    }

-- the past with that move
abbrev pub with_move : BettingState → Past → ℕ → Act → ℕ → Past
with_move b past seat act target = Moved (move_of b (moves_of past) seat act target) ∷ past

-- an event is legal, and takes place as this move
pub record IsLegalMove (b : BettingState) (past : Past) (event : Said) (seat : ℕ) (act : Act)
    (target : ℕ) : Type 0 where
  pub legal : why b.setup b.rules past event ≡ None
  pub moved : with_event b.setup event past ≡ with_move b past seat act target

-- whose turn it is after a past
abbrev pub IsTurn : BettingState → Past → InTurn → Type 0
IsTurn b past in_turn = in_turn ≡ in_turn_on b.setup past b.street

-- holds after each past that the state stands for, if this is whose turn it is whenever a bring-in
-- or a move is due
abbrev pub WhereBets : BettingState → Option Seat → (Past → Type 0) → Type 0
WhereBets b turn P =
    (past : Past) → StandsFor b past
    → (is_bet_due b.due ≡ true → IsTurn b past (turn_of (seat_said turn))) → P past

-- holds after each past that the state stands for, if the row has the up-cards that are read of it
abbrev pub WhereUps : BettingState → UpRow → (Past → Type 0) → Type 0
WhereUps b up P = (past : Past) → StandsFor b past → HoldsOpeningUps b up past → P past

-- why an event is refused after a past, under the setup and rules of the state
abbrev pub reason_after : BettingState → Past → Said → Option Illegal
reason_after b past event = why b.setup b.rules past event

-- the past with one more event
abbrev pub past_with : BettingState → Past → Said → Past
past_with b past event = with_event b.setup event past

-- a refusal gives the reason of the rules
abbrev pub IsRefused : {T : Type 0} → BettingState → Said → Result T Illegal → Past → Type 0
IsRefused b event result past = IfErr result (λ reason. reason_after b past event ≡ Some reason)

-- an event is allowed: it is legal, and takes place as the given move
abbrev pub IsAllowed : BettingState → Said → Result LegalMove Illegal → Past → Type 0
IsAllowed b event result past =
    IfOk result
    (λ legal. IsLegalMove b past event legal.seat.number (act_said legal.act) legal.target)

-- the move is by a seat of the hand
abbrev pub IsOfHand : BettingState → LegalMove → Type 0
IsOfHand b legal = legal.seat.number ≤ b.setup.stacks.seats

-- the move is by the seat whose turn it is
abbrev pub IsInTurn : Option Seat → LegalMove → Type 0
IsInTurn turn legal = turn ≡ Some legal.seat

-- the target of the move is at most all-in
abbrev pub IsInReach : BettingState → LegalMove → Type 0
IsInReach b legal = legal.target ≤ all_in_seen b legal.seat.number

-- the move is possible when this is due
abbrev pub IsFit : BettingState → LegalMove → Type 0
IsFit b legal = may_come_at (act_said legal.act) b.due ≡ true

-- The answer to an event that would be a move, given whose turn it is (if known), is that of the
-- rules.
pub record IsAnswered (b : BettingState) (in_turn : Option Seat) (event : Said)
    (answer : Result LegalMove Illegal) : Type 0 where
  -- a refusal gives the reason of the rules
  pub refused : WhereBets b in_turn (IsRefused b event answer)
  -- an allowed event is legal, and takes place as the given move
  pub legal : WhereBets b in_turn (IsAllowed b event answer)
  -- if it is allowed, a bring-in or a move is due
  pub due : OnOk answer (is_bet_due b.due ≡ true)
  -- the move is possible when this is due
  pub fits : IfOk answer (IsFit b)
  -- the move is by a seat of the hand
  pub in_hand : IfOk answer (IsOfHand b)
  -- the move is by the seat whose turn it is
  pub seat : IfOk answer (IsInTurn in_turn)
  -- the target of the move is at most all-in
  pub reach : IfOk answer (IsInReach b)
