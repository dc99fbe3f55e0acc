-- What the running numbers of a hand keep from call to call.
use Rattle.std.specs.Prelude.{◌≡◌, ◌≤◌, ℕ, true, Option, None, IfSome}
use Rattle.chip_ledger.specs.declared.numbers.Seat.{Seat}
use Rattle.betting_numbers.specs.declared.betting_state.BettingState.{BettingState}
use Rattle.betting_numbers.specs.Turn.{IsNextUp, KeepsSeat, KeepsTurn, StartsFresh}
use Rattle.play_event.specs.declared.code.Code.{Code}
use Rattle.play_laws.specs.Dues.{is_before_moves, is_of_street}

-- the numbers of a hand of a game with this number of streets
pub record AreHandNumbers (streets : ℕ) (b : BettingState) : Type 0 where
  pub first : 1 ≤ b.street
  pub last : b.street ≤ streets
  -- what is due is due on this street
  pub here : is_of_street b.street b.due ≡ true
  -- before the first move of a street no seat has moved on it
  pub begins : is_before_moves b.due ≡ true → b.last ≡ None
  pub fresh : StartsFresh b
  -- if a move is due, the seat to act is kept, and it is a seat of the hand
  pub turn : KeepsTurn b
  pub seat : KeepsSeat b

-- the numbers are those of a hand of this variant, which has this number of streets
pub record AreOfGame (game : Code) (streets : ℕ) (b : BettingState) : Type 0 where
  pub code : b.setup.code ≡ game
  pub kept : AreHandNumbers streets b

-- the numbers are on a street of the game, and if no seat has moved on it, none has since the
-- current bet rose
pub record IsOnStreet (streets : ℕ) (b : BettingState) : Type 0 where
  pub first : 1 ≤ b.street
  pub last : b.street ≤ streets
  pub fresh : StartsFresh b

-- the turn may be passed on: the numbers are of this game and on one of its streets, and `next`, if
-- known, is the only seat that can be next to act
pub record IsReadyToPass (game : Code) (streets : ℕ) (b : BettingState) (next : Option Seat)
    : Type 0 where
  pub code : b.setup.code ≡ game
  pub on : IsOnStreet streets b
  pub behind : IfSome next (IsNextUp b)

-- the hand is the same: what was set before its first card
pub record IsSameHand (old new : BettingState) : Type 0 where
  pub setup : new.setup ≡ old.setup
  pub rules : new.rules ≡ old.rules

-- the seat, if it is known, is a seat of the hand
abbrev pub IsOfTable : BettingState → Option Seat → Type 0
IsOfTable b turn = IfSome turn (λ seat. seat.number ≤ b.setup.stacks.seats)
