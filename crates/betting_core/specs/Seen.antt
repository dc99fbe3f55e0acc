-- What is seen of the seats of a hand, whether what is due is complete or not.
use Rattle.std.specs.Prelude.{◌≡◌, ◌≢◌, ℕ, List, [], Option}
use Rattle.betting_numbers.specs.declared.betting_state.BettingState.{BettingState}
use Rattle.betting_numbers.specs.Standing.{StandsFor, newest_seat}
use Rattle.betting_numbers.specs.UpTo.{StandsUpTo}
use Rattle.chip_ledger.specs.declared.live_row.LiveRow.{LiveRow}
use Rattle.chip_ledger.specs.LiveRow.{flag_of, flagged}
use Rattle.play_event.specs.Past.{Move, Past, moves_of, moves_on}
use Rattle.play_event.specs.Seats.{is_live}
use Rattle.chip_ledger.specs.Seat.{IsSeatOf}

-- holds for each seat of the hand, after each past that the numbers stand for in this way
abbrev pub EachSeat : BettingState → (Past → Type 0) → (Past → ℕ → Type 0) → Type 0
EachSeat b stands P =
    (past : Past) → stands past → (seat : ℕ) → IsSeatOf b.setup.stacks.seats seat → P past seat

-- a row has the seats of the hand and this holds for each of them, whether the numbers stand for
-- the past or stand for it up to their due
pub record TellsSeats (count : ℕ) (b : BettingState) (P : Past → ℕ → Type 0) : Type 0 where
  pub seats : count ≡ b.setup.stacks.seats
  pub stands : EachSeat b (StandsFor b) P
  pub up_to : EachSeat b (StandsUpTo b) P

-- a row says whether the seat is live
abbrev pub TellsWhetherLive : LiveRow → Past → ℕ → Type 0
TellsWhetherLive row past seat = flag_of row seat ≡ is_live (moves_of past) seat

-- a row says which seats are live, and at least one is
pub record TellsLive (row : LiveRow) (b : BettingState) : Type 0 where
  pub seats : row.seats ≡ b.setup.stacks.seats
  pub stands : EachSeat b (StandsFor b) (TellsWhetherLive row)
  pub up_to : EachSeat b (StandsUpTo b) (TellsWhetherLive row)
  pub someone : (past : Past) → StandsFor b past → flagged row ≢ []

-- after each past for which the numbers stand, where this is a seat of the hand
abbrev pub WhereInHand : BettingState → ℕ → (Past → Type 0) → Type 0
WhereInHand b seat P =
    (past : Past) → StandsFor b past → IsSeatOf b.setup.stacks.seats seat → P past

-- the seat that moved last on a street, if one has moved there
abbrev pub moved_last : List Move → ℕ → Option ℕ
moved_last moves street = newest_seat (moves_on street moves)
